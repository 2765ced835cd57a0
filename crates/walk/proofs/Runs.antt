-- A keeper's places read as the stations of the walk: the least of a run is the least of its node, and a place is a station.
use Rattle.std.proofs.Common.{◌≡◌, ℕ, ◌<◌, ◌≤◌, ◌≢◌, List, length, get_or, set, Some, None, Option, sym, ap, ◌∙◌, arith}
use native.Mathlib.Decide.{dec_lt}
use Rattle.std.proofs.lemmas.List.{get_or-set_same, get_or-set_other}
use Rattle.tree.specs.Tree.{Tree, Runs}
use Rattle.walk.specs.State.{Changed}
use Rattle.walk.specs.Rules.{Lowest, Nothing}

-- writing one element of a list changes it there alone
pub changed_set : {A : Type 0} (xs : List A) (i : ℕ) (a d : A) → i < length xs → Changed (λ u. get_or xs u d) i a (λ u. get_or (set xs i a) u d)
changed_set xs i a d h = record { at = get_or-set_same xs i a d h; off = λ u n. get_or-set_other xs i u a d n }

-- so_far is what the keeper holds at the places of the stations
pub record Held (t : Tree) (held so_far : ℕ → Option ℕ) : Type 0 where
  pub at : (u : ℕ) → u < t.stations → so_far u ≡ held (t.place u)
  pub none : (u : ℕ) → t.stations ≤ u → so_far u ≡ None

module _ {t : Tree} (runs : Runs t) {held so_far : ℕ → Option ℕ} (h : Held t held so_far) where
  pub run_lowest : {x p d : ℕ} → x < t.nodes → t.low x ≤ p → p ≤ t.high x → held p ≡ Some d
      → ((q y : ℕ) → t.low x ≤ q → q ≤ t.high x → held q ≡ Some y → d ≤ y) → Lowest t so_far x d
  run_lowest {x} {p} {d} n a b e least =
      let w = runs.seat x p n a b in
      record {
        at = w.who;
        inside = w.inside;
        known = h.at w.who w.inside.station ∙ ap held w.here ∙ e;
        least = λ u y i q. least (t.place u) y (runs.starts u x i) (runs.ends u x i) (sym (h.at u i.station) ∙ q);
      }

  pub run_nothing : {x : ℕ} → ((q : ℕ) → t.low x ≤ q → q ≤ t.high x → held q ≡ None) → Nothing t so_far x
  run_nothing {x} none u i = h.at u i.station ∙ none (t.place u) (runs.starts u x i) (runs.ends u x i)

  pub run_changed : {held' so_far' : ℕ → Option ℕ} {v : ℕ} {o : Option ℕ} → Held t held' so_far' → v < t.stations → Changed held (t.place v) o held'
      → Changed so_far v o so_far'
  run_changed {held'} {so_far'} {v} k n c =
      record { at = k.at v n ∙ c.at; off = λ u z. other u z (dec_lt u t.stations) }
    where
      other : (u : ℕ) → u ≢ v → Dec (u < t.stations) → so_far' u ≡ so_far u
      other u z (yes l) = k.at u l ∙ c.off (t.place u) (λ e. z (runs.apart u v l n e)) ∙ sym (h.at u l)
      other u z (no l) = k.none u (omega arith) ∙ sym (h.none u (omega arith))
