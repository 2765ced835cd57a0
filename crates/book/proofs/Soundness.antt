-- The row of a link that a scheme has is never refused.
use Rattle.std.proofs.Common.{◌≡◌, ℕ, ◌<◌, ◌≤◌, vec_items, vec_len, Ok, Err, Result, MatchResult, MatchOption, subst, sym, arith}
use Rattle.std.specs.Result.{result_ok}
use Rattle.std.proofs.Math.ListN.{get_or-map}
use Rattle.std.proofs.lemmas.List.{length-map}
use Rattle.network.specs.Network.{Proper}
use Rattle.network.specs.Rows.{Sound, Why, Refused}
use Rattle.network.specs.Entries.{no_entry}
use Rattle.network.specs.Schemes.{network_of}
use Rattle.network.specs.declared.entry.Entry.{Entry}
use Rattle.network.specs.declared.link.Link.{Link}
use Rattle.network.specs.declared.row.Row.{Row}
use Rattle.network.specs.declared.scheme.Scheme.{Scheme}
use Rattle.network.specs.declared.refusal.RowRefusal.{RowRefusal}
use Rattle.network.specs.declared.refusal.RowRefusal.TheVariants.{EndOutside, EqualEnds, NoDelay}

pub proper : (s : Scheme) → Proper (network_of s)
proper s k h =
    let row = λ (e : Entry). e.row in
    let below : k < vec_len s.links = omega (arith, h, length-map (vec_items s.links) row, s.links.ok.0) in
    subst (λ (r : Row). Sound s.stations r) (sym (get_or-map row (vec_items s.links) k no_entry)) (s.sound k below)

pub never_refused : (n : ℕ) (r : Row) (e : RowRefusal) → Sound n r → Why n r e → ⊥
never_refused n r (EndOutside back) s w = w s.0
never_refused n r (EqualEnds back) s w = s.1 w.1
never_refused n r (NoDelay back) s w = omega (arith, s.2, w.2)

pub made : (n k m : ℕ) (r : Row) (answer : Result Link RowRefusal) → k < m → Sound n r
    → MatchResult answer (λ l. Sound n r × (l.row ≡ r)) (λ e. Refused n r e)
    → MatchOption (result_ok answer) (m ≤ k) (λ l. (k < m) × (l.row ≡ r))
made n k m r (Ok l) h s w = (h, w.1)
made n k m r (Err e) h s w = absurd (never_refused n r e s w.0)
