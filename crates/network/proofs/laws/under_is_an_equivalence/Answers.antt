use Rattle.network.proofs.Levels.{joined_self, joined_symmetric, joined_transitive, under_grows, level_of_small, small_of_level}
use Rattle.network.proofs.laws.under_is_an_equivalence.Goals as goal

pub returns : goal.returns
returns c g =
    record {
      self = λ i. joined_self;
      symmetric = λ i a b. joined_symmetric;
      transitive = λ i a b c. joined_transitive;
      grows = λ i j a b. under_grows;
      level = λ i k l v. (level_of_small v, small_of_level v);
    }
