-- The joining links of all levels, found link by link: they join what all links join, and are fewer than the stations.
use Rattle.std.proofs.Common.{◌≡◌, ℕ, zero, suc, ◌+◌, ◌-◌, ◌^◌, ◌<◌, ◌≤◌, true, false, ◌⊎◌, List, [], ◌∷◌, length, get_or, sym, refl, subst, inl, inr, arith}
use native.Mathlib.Decide.{ℕ_discrete, dec_lt}
use Rattle.network.specs.Levels.{IsLevel}
use Rattle.network.specs.Lists.{Among}
use Rattle.network.specs.Network.{Network, Proper, Hop, Joined, Small, delay}
use Rattle.network.proofs.Routes.{hop_stations, hop_delay}
use Rattle.network.proofs.Levels.{joined_self, small_grows}
use Rattle.network.proofs.Search.{true?}
use Rattle.tree.specs.Totals.{total}
use Rattle.tree.proofs.Marks.{merge, merged, merged_self, merged_own, own, own_all, own_some}
use Rattle.tree.proofs.Ranks.{Past, before_past, past_before, hop_of}
use Rattle.tree.proofs.Growing.{Grouped, skipped, inside, joins_two}

-- the groups of the links `seen`; there is one label less for each joining link
pub record Forest (g : Network) (seen : ℕ → Type 0) : Type 0 where
  pub label : ℕ → ℕ
  pub joins : List ℕ
  pub grouped : Grouped g seen label joins
  pub self : (u : ℕ) → label (label u) ≡ label u
  pub below : (u : ℕ) → u < g.stations → label u < g.stations
  pub count : total (own label) g.stations + length joins ≡ g.stations

forest_skipped : {g : Network} {seen seen' : ℕ → Type 0} → Forest g seen → ((j : ℕ) → seen j → seen' j) → ((j a b : ℕ) → Hop g j a b → seen' j → seen j) → Forest g seen'
forest_skipped f more only =
    record { label = f.label; joins = f.joins; grouped = skipped f.grouped more only; self = f.self; below = f.below; count = f.count }

level_next : {ns i : ℕ} → ¬ (ns < 2 ^ i) → ns < 2 ^ suc i → IsLevel ns (suc i)
level_next {ns} {i} n h =
    let e : suc i - 1 ≡ i = omega arith in
    record { least = omega arith; reaches = subst (λ z. 2 ^ z ≤ ns) (sym e) (omega arith); under = h }

module _ {g : Network} (proper : Proper g) where
  start : Forest g (Past g 0 0)
  start =
      record {
        label = λ u. u;
        joins = [];
        grouped =
            record {
              joined = λ u v e. subst (Joined g (λ j. Among j []) u) e (joined_self u);
              closed = λ j a b p h. absurd (nothing p h);
              sound = λ j h. elim h [ ];
              every = λ j p l. absurd (nothing p (hop_of l));
              once = tt;
            };
        self = λ u. refl;
        below = λ u h. h;
        count = omega (arith, own_all g.stations);
      }
    where
      nothing : {j a b : ℕ} → Past g 0 0 j → Hop g j a b → ⊥
      nothing (inl s) h = let one : 2 ^ 0 ≡ 1 = refl in omega (arith, s.under, hop_delay proper h)
      nothing (inr s) h = omega (arith, s.1)

  -- the link k of level i + 1, from a to b
  take : {i k a b : ℕ} → Forest g (Past g i k) → IsLevel (delay g k) (suc i) → Hop g k a b → Forest g (Past g i (suc k))
  take {i} {k} {a} {b} f level over = go (ℕ_discrete (f.label a) (f.label b))
    where
      more : (j : ℕ) → Past g i k j → Past g i (suc k) j
      more j = elim [ inl h ↦ inl h | inr h ↦ inr (h.0, omega (arith, h.1)) ]

      only : (j : ℕ) → Past g i (suc k) j → Past g i k j ⊎ (j ≡ k)
      only j (inl h) = inl (inl h)
      only j (inr h) = elim (ℕ_discrete j k) [ yes e ↦ inr e | no n ↦ inl (inr (h.0, omega (arith, h.1))) ]

      go : Dec (f.label a ≡ f.label b) → Forest g (Past g i (suc k))
      go (yes e) =
          record {
            label = f.label;
            joins = f.joins;
            grouped = inside f.grouped more only (past_before proper level) (before_past level) over e;
            self = f.self;
            below = f.below;
            count = f.count;
          }
      go (no n) =
          let m = merged f.label (f.label b) (f.label a) in
          record {
            label = merge f.label (f.label b) (f.label a);
            joins = k ∷ f.joins;
            grouped = joins_two f.grouped more only (past_before proper level) (before_past level) over (inr (record { under = level.under }, omega arith)) n m;
            self = merged_self m f.self n (f.self a);
            below = λ u h.
                elim (ℕ_discrete (f.label u) (f.label b)) [
                  | yes e ↦ omega (arith, m.at u e, f.below a (hop_stations proper over).0)
                  | no d ↦ omega (arith, m.off u d, f.below u h)
                ];
            count = omega (arith, f.count, merged_own m f.self n (f.self a) g.stations (f.self b) (f.below b (hop_stations proper over).1));
          }

  next_link : (i k : ℕ) → Forest g (Past g i k) → Forest g (Past g i (suc k))
  next_link i k f = go (dec_lt (delay g k) (2 ^ i)) (dec_lt (delay g k) (2 ^ suc i)) (dec_lt k (length g.rows)) (true? (get_or g.service k false))
    where
      -- a link that is not k, or k where it is skipped
      leave : ((a b : ℕ) → Hop g k a b → Small g (suc i) k → Small g i k) → Forest g (Past g i (suc k))
      leave no_hop = forest_skipped f (λ j. elim [ inl s ↦ inl s | inr s ↦ inr (s.0, omega (arith, s.1)) ]) only
        where
          only : (j a b : ℕ) → Hop g j a b → Past g i (suc k) j → Past g i k j
          only j a b h (inl s) = inl s
          only j a b h (inr s) = elim (ℕ_discrete j k) [ yes e ↦ inl (rw (sym e) at (no_hop a b (rw e at h) (rw e at s.0))) | no n ↦ inr (s.0, omega (arith, s.1)) ]

      go : Dec (delay g k < 2 ^ i) → Dec (delay g k < 2 ^ suc i) → Dec (k < length g.rows) → Dec (get_or g.service k false ≡ true) → Forest g (Past g i (suc k))
      go (yes s) m o u = leave (λ a b h z. record { under = s })
      go (no s) (no m) o u = leave (λ a b h z. absurd (m z.under))
      go (no s) (yes m) (no o) u = leave (λ a b h z. absurd (o h.listed))
      go (no s) (yes m) (yes o) (no u) = leave (λ a b h z. absurd (u h.up))
      go (no s) (yes m) (yes o) (yes u) = take f (level_next s m) (record { listed = o; up = u; ends = inl (refl, refl) })

  links : (i k : ℕ) → Forest g (Past g i 0) → Forest g (Past g i k)
  links i zero f = f
  links i (suc k) f = next_link i k (links i k f)

  next_level : (i : ℕ) → Forest g (Past g i (length g.rows)) → Forest g (Past g (suc i) 0)
  next_level i f =
      forest_skipped f (λ j. elim [ inl s ↦ (let l : i ≤ suc i = omega arith in inl (small_grows l j s)) | inr s ↦ inl s.0 ])
      (λ j a b h. elim [ inl s ↦ inr (s, h.listed) | inr s ↦ absurd (omega (arith, s.1)) ])

  levels : (i : ℕ) → Forest g (Past g i 0)
  levels zero = start
  levels (suc i) = next_level i (links i (length g.rows) (levels i))

  -- what it comes to after level i, whatever way it is found
  pub forest : (i : ℕ) → Forest g (Small g i)
  forest i = forest_skipped (levels i) (λ j. elim [ inl s ↦ s | inr s ↦ absurd (omega (arith, s.1)) ]) (λ j a b h s. inl s)

pub few_joining : (g : Network) (proper : Proper g) (i : ℕ) → 1 ≤ g.stations → suc (length (forest {g = g} proper i).joins) ≤ g.stations
few_joining g proper i h =
    let f = forest {g = g} proper i in
    omega (arith, f.count, own_some f.label (f.label 0) g.stations (f.self 0) (f.below 0 h))
