use Rattle.std.proofs.Common.{ℕ, ◌+◌, sym, subst, arith}
use Rattle.text.specs.Split.{PieceAt}
use Rattle.text.proofs.Pieces.{piece_first, piece_within, piece_next}
use Rattle.text.proofs.split.piece_start.Goals as goal

pub loop-init : goal.loop-init
loop-init c = piece_first c.args.stop c.args.bytes.now

pub piece_end-requires : goal.piece_end-requires
piece_end-requires c = piece_within c.args.stop _ _ _ c.loop.invariant

pub loop-preserved : goal.loop-preserved
loop-preserved c =
    let next = piece_next c.args.stop _ _ _ _ c.loop.invariant c.piece_end.ensures (omega arith) in
    subst (λ (n : ℕ). PieceAt c.args.stop c.args.bytes.now (c.loop.counter + 1) n) (sym c.min-start.ensures) next
