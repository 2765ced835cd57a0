-- The least delay is a distance.
use Rattle.std.proofs.Common.{◌≡◌, ℕ, ◌+◌, ◌≤◌, List, [], ◌∷◌, ◌++◌, reverse, refl, arith}
use Rattle.network.specs.Network.{Network, Proper, Hop, Route, here, step, Attained, Least, delay, sum}
use Rattle.network.proofs.Routes.{join, join_sum, turn, turn_sum, link, hop_delay}

pub attained_self : (g : Network) (a : ℕ) → Attained g a a 0
attained_self g a = record { links = []; route = here; total = refl }

pub attained_join : {g : Network} {a b c x y : ℕ} → Attained g a b x → Attained g b c y → Attained g a c (x + y)
attained_join {g} h k =
    record { links = h.links ++ k.links; route = join h.route k.route; total = omega (arith, join_sum g h.links k.links, h.total, k.total) }

-- one more link
pub attained_link : {g : Network} {a b c k x : ℕ} → Attained g a b x → Hop g k b c → Attained g a c (x + delay g k)
attained_link {g} {k = k} h l = attained_join h (record { links = k ∷ []; route = link l; total = omega arith })

pub attained_turn : {g : Network} {a b x : ℕ} → Attained g a b x → Attained g b a x
attained_turn {g} h = record { links = reverse h.links; route = turn h.route; total = omega (arith, turn_sum g h.links, h.total) }

pub least_self : (g : Network) (a : ℕ) → Least g a a 0
least_self g a = record { attained = attained_self g a; least = λ ks p. omega arith }

-- no attained delay is below the least one
pub least_le : {g : Network} {a b x y : ℕ} → Least g a b x → Attained g a b y → x ≤ y
least_le h k = omega (arith, h.least k.links k.route, k.total)

pub least_one : {g : Network} {a b x y : ℕ} → Least g a b x → Least g a b y → x ≡ y
least_one h k = omega (arith, least_le h k.attained, least_le k h.attained)

pub triangle : {g : Network} {a b c x y z : ℕ} → Least g a b x → Least g b c y → Least g a c z → z ≤ x + y
triangle h k l = least_le l (attained_join h.attained k.attained)

pub least_symmetric : {g : Network} {a b x : ℕ} → Least g a b x → Least g b a x
least_symmetric {g} h =
    record { attained = attained_turn h.attained; least = λ ks p. omega (arith, h.least (reverse ks) (turn p), turn_sum g ks) }

-- no time at all passes only from a station to itself
pub attained_zero : {g : Network} {a b : ℕ} → Proper g → Attained g a b 0 → a ≡ b
attained_zero {g} proper h = go h.route h.total
  where
    go : {a b : ℕ} {ks : List ℕ} → Route g a ks b → sum g ks ≡ 0 → a ≡ b
    go here e = refl
    go (step l p) e = absurd (omega (arith, hop_delay proper l))
