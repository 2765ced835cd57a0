use Rattle.word.specs.Bytes.{separator}
use Rattle.std.proofs.Common.{[], ◌∷◌}
use Rattle.text.proofs.Joins.{joined_words, words_joined, pieces_free}
use Rattle.text.proofs.laws.words_are_joined.Goals as goal

pub returns : goal.returns
returns c = record { joined_again = joined_words; free = λ line. pieces_free separator ([] ∷ []) (tt, tt) line; only = words_joined }
