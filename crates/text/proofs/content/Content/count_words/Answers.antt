use Rattle.std.proofs.Common.{arith}
use Rattle.text.proofs.Pieces.{words_count}
use Rattle.text.proofs.content.Content.count_words.Goals as goal

pub returns : goal.returns
returns c = omega (arith, words_count c.args.self.now.bytes.now)
