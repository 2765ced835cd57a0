use Rattle.std.proofs.Common.{arith}
use Rattle.network.proofs.Levels.{apart}
use Rattle.network.proofs.Groups.{joint_one, joint_of, joint_symmetric, joint_self, joint_between, joint_apart, joint_top, under_zero}
use Rattle.network.proofs.laws.joint_level_is_a_distance.Goals as goal

pub returns : goal.returns
returns c g =
    record {
      unique = λ a b i j. joint_one;
      exists = λ a b ks. joint_of;
      symmetric = λ a b i. joint_symmetric;
      zero = λ a b proper. (λ j. under_zero proper j.joined, λ e. rw e (joint_self g b));
      between = λ a b c i j l. joint_between;
      long = λ a b i ks j. apart (joint_apart j);
      highest = λ a b i f. joint_top 32 (λ k l. omega (arith, f k l));
    }
