-- One group takes in another.
use Rattle.std.proofs.Common.{◌≡◌, ℕ, ◌≢◌, rules, arith}
use Rattle.making.specs.declared.groups.Member.{Member}
use Rattle.making.specs.Members.{relabelled}

pub relabelled_hit : (hi lo : ℕ) (m : Member) → m.label ≡ hi → relabelled hi lo m ≡ record { label = lo; before = m.before; sum = m.sum }
relabelled_hit hi lo m e = search rules

pub relabelled_miss : (hi lo : ℕ) (m : Member) → m.label ≢ hi → relabelled hi lo m ≡ m
relabelled_miss hi lo m n = grind arith
