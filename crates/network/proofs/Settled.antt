-- The least delays from a source, as a function of the stations.
use Rattle.std.proofs.Common.{◌≡◌, ℕ, ◌⊎◌, List, Some, None, Option, sym, refl, ap, ◌∙◌, inl, inr, arith}
use Rattle.network.specs.Network.{Network, Proper, Route, here, NoRoute, Least}
use Rattle.network.specs.Picked.{Settled}
use Rattle.network.proofs.Leasts.{least_one, least_self}
use Rattle.network.proofs.Search.{told}

pub some_none : {o : Option ℕ} {x : ℕ} → o ≡ Some x → o ≡ None → ⊥
some_none p q = let z : ◌≡◌ {A = ℕ} 0 1 = cc in omega arith

-- the least delays from s, told one by one
pub settled_of : {g : Network} → Proper g → (s : ℕ) → (delays : ℕ → Option ℕ) × Settled g s delays
settled_of {g} proper s = (λ t. of (told proper s t), record { least = λ t d. of_some (told proper s t); none = λ t. of_none (told proper s t) })
  where
    of : {t : ℕ} → NoRoute g s t ⊎ ((d : ℕ) × Least g s t d) → Option ℕ
    of (inl n) = None
    of (inr l) = Some l.0

    of_some : {t d : ℕ} (r : NoRoute g s t ⊎ ((x : ℕ) × Least g s t x)) → of r ≡ Some d → Least g s t d
    of_some (inl n) e = absurd (some_none e refl)
    of_some {d = d} (inr l) e = let z : l.0 ≡ d = cc in rw z at l.1

    of_none : {t : ℕ} (r : NoRoute g s t ⊎ ((x : ℕ) × Least g s t x)) → of r ≡ None → NoRoute g s t
    of_none (inl n) e = n
    of_none (inr l) e = absurd (some_none refl e)

pub settled_one : {g : Network} {s : ℕ} {one other : ℕ → Option ℕ} → Settled g s one → Settled g s other → (t : ℕ) → one t ≡ other t
settled_one {g} {s} {one} {other} p q t = go (one t) refl (other t) refl
  where
    clash : {x : ℕ} → Least g s t x → NoRoute g s t → ⊥
    clash l n = n l.attained.links l.attained.route

    go : (x : Option ℕ) → one t ≡ x → (y : Option ℕ) → other t ≡ y → one t ≡ other t
    go None e None f = e ∙ sym f
    go None e (Some y) f = absurd (clash (q.least t y f) (p.none t e))
    go (Some x) e None f = absurd (clash (p.least t x e) (q.none t f))
    go (Some x) e (Some y) f = e ∙ ap Some (least_one (p.least t x e) (q.least t y f)) ∙ sym f

-- where a route leads there is a delay
pub settled_known : {g : Network} {s u : ℕ} {delays : ℕ → Option ℕ} {ks : List ℕ} → Settled g s delays → Route g s ks u → (y : ℕ) × (delays u ≡ Some y)
settled_known {u = u} {delays = delays} {ks = ks} settled p = go (delays u) refl
  where
    go : (o : Option ℕ) → delays u ≡ o → (y : ℕ) × (delays u ≡ Some y)
    go (Some y) e = (y, e)
    go None e = absurd (settled.none u e ks p)

pub settled_source : {g : Network} {s : ℕ} {delays : ℕ → Option ℕ} → Settled g s delays → delays s ≡ Some 0
settled_source {g} {s} settled =
    let y = settled_known settled here in
    y.1 ∙ ap Some (least_one (settled.least s y.0 y.1) (least_self g s))
