-- What a walk begins with.
use Rattle.std.specs.Prelude.{◌≡◌, ℕ, None, vec_len}
use Rattle.settling.specs.declared.trail.Trail.{Trail}
use Rattle.settling.specs.Means.{final_of, base_of, count_of}

-- a trail was cleared, and is as large as it was
pub record Cleared (w w' : Trail) : Type 0 where
  pub final : (u : ℕ) → final_of w' u ≡ None
  pub base : (x : ℕ) → base_of w' x ≡ None
  pub count : (x : ℕ) → count_of w' x ≡ 0
  pub settled_size : vec_len w'.settled ≡ vec_len w.settled
  pub nodes_size : vec_len w'.nodes ≡ vec_len w.nodes
