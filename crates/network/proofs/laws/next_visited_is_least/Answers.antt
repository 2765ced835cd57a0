use Rattle.std.proofs.Common.{◌≡◌, ℕ, ◌≢◌, Some, None, Option, ap}
use native.Mathlib.Decide.{ℕ_discrete}
use Rattle.network.proofs.Settled.{some_none}
use Rattle.network.proofs.Next.{begin, visit_keeps, next_least, bucketed_joint, bucketed_no_route, passes, all_visited}
use Rattle.network.proofs.laws.next_visited_is_least.Goals as goal

module _ {s : ℕ} {tentative : ℕ → Option ℕ} (zero : tentative s ≡ Some 0) (others : (u : ℕ) → u ≢ s → tentative u ≡ None) where
  only_source : (u y : ℕ) → tentative u ≡ Some y → (u ≡ s) × (y ≡ 0)
  only_source u y e = go (ℕ_discrete u s)
    where
      go : Dec (u ≡ s) → (u ≡ s) × (y ≡ 0)
      go (yes z) = (z, cc (ap tentative z))
      go (no n) = absurd (some_none e (others u n))

pub returns : goal.returns
returns c g s final tentative =
    record {
      begin = λ n t o. begin g s (λ w f. some_none f.1 (n w)) t (only_source t o);
      visit = λ v x final' tentative' knows. visit_keeps knows;
      least = λ v x knows. next_least knows;
      joint = λ u v x y i. bucketed_joint;
      apart = λ u v x y. bucketed_no_route;
      passes = λ v ks knows. passes knows;
      all = λ v ks knows n. all_visited knows n;
    }
