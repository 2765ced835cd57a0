-- The start of the walk: the invariant holds.
use Rattle.std.proofs.Common.{◌≡◌, ℕ, ◌+◌, ◌*◌, ◌/◌, ◌<◌, ◌≤◌, List, ◌∷◌, Some, None, Option, sym, refl, ap, ◌∙◌, subst, inl, inr, arith}
use native.Mathlib.Decide.{ℕ_discrete}
use Rattle.network.specs.Network.{Network, Route, sum}
use Rattle.tree.specs.Tree.{Tree, Below, In, Inner, Fits, width}
use Rattle.network.proofs.Leasts.{least_self}
use Rattle.tree.proofs.Nodes.{station_only, root_top, holder}
use Rattle.tree.proofs.Words.{some_none, same_some}
use Rattle.walk.specs.State.{Core, State, Changed, called}
use Rattle.walk.specs.Rules.{Call, Links}
use Rattle.walk.specs.Steps.{Open, Blank, Begin, alone, root}
use Rattle.walk.proofs.Lines.{bucket_low}
use Rattle.walk.proofs.Invariant.{On, Expanded, Found, Stack, empty, bottom, loose, Facts, Looked, Inv}
use Rattle.walk.proofs.Keep.{Change, change, cons_nil}
use Rattle.walk.proofs.Look.{Looking, links_looking}
use Rattle.walk.proofs.Pass.{pass}
use Rattle.walk.proofs.Visit.{call_facts, call_looked}
use Rattle.walk.proofs.Enter.{expand_facts}

module _ {g : Network} {t : Tree} (fits : Fits g t) {src : ℕ} (station : src < t.stations) {s : State} (blank : Blank src s) where
  only : (u y : ℕ) → s.core.so_far u ≡ Some y → Dec (u ≡ src) → Found g t src s.core.final u y
  only u y e (no z) = absurd (some_none e (blank.so_far.off u z))
  only u y e (yes z) =
      let q : y ≡ 0 = same_some (ap s.core.so_far (sym z) ∙ e) blank.so_far.at in
      rw (z, q) (record { station = station; unvisited = blank.final src; attained = (least_self g src).attained })

  pub blank_facts : Facts g t src s.core s.frames (λ x. 0)
  blank_facts =
      record {
        delays = record { exact = λ w d h. absurd (some_none h (blank.final w)); found = λ u y e. only u y e (ℕ_discrete u src); start = inr blank.so_far.at };
        grown = record {
          inner = λ x β e. absurd (some_none e (blank.base x));
          entered = λ w d p h. absurd (some_none h (blank.final w));
          upward = λ x β p e. absurd (some_none e (blank.base x));
        };
        early = λ x β e. absurd (some_none e (blank.base x));
        limits = record {
          floor = λ x β e. absurd (some_none e (blank.base x));
          cap = λ x β e. absurd (some_none e (blank.base x));
          later = λ x β e. absurd (some_none e (blank.base x));
          nested = λ x β p e. absurd (some_none e (blank.base x));
          passed = λ x β w d e. absurd (some_none e (blank.base x));
          far = λ x β u ks e. absurd (some_none e (blank.base x));
          room = λ x β e. absurd (some_none e (blank.base x));
        };
        stands = λ c. loose (λ p h. blank.base p) (blank.bucket c);
        stack = subst (λ z. Stack t src s.core.base s.core.count (λ x. 0) z) (sym blank.frames) empty;
        top = λ f fs e. absurd (cons_nil e blank.frames);
      }

  pub blank_looked : Looked g s.core.final s.core.so_far
  blank_looked w d u j h = absurd (some_none h (blank.final w))

  -- a source that is its own root
  module _ {final' so_far' : ℕ → Option ℕ} (h : t.parent src ≡ None) (call : Call s.core src 0 final' so_far') where
    home : (p : ℕ) → t.parent src ≡ Some p → Expanded s.core.base p
    home p q = absurd (some_none q h)

    before : (x β : ℕ) → s.core.base x ≡ Some β → Below t src x → 0 < 0
    before x β e b = absurd (some_none e (blank.base x))

    sole : (c p β : ℕ) → t.parent c ≡ Some p → s.core.base p ≡ Some β → s.core.base c ≡ None → Below t src c → c ≡ src
    sole c p β q e = absurd (some_none e (blank.base p))

    waits : (c : ℕ) → Expanded s.core.base c → ¬ On s.frames c → ¬ Below t src c
    waits c e = absurd (some_none e.based (blank.base c))

    bare : Changed s.core.shelf.bucket src None s.core.shelf.bucket
    bare = record { at = blank.bucket src; off = λ u n. refl }

    pub alone_looking : {k : ℕ} {s₁ : Core} → Links g t src 0 (called s.core final' so_far' s.core.shelf) k s₁
        → Looking g t src src k (called s.core final' so_far' s.core.shelf) s₁ s.frames (λ x. 0)
    alone_looking links =
        links_looking fits (call_facts fits blank_facts station (least_self g src) home before sole waits call s.core.shelf bare) call.final.at
        (call_looked fits blank_facts station (least_self g src) home before sole waits call s.core.shelf bare blank_looked) links

pub begin_inv : {g : Network} {t : Tree} (fits : Fits g t) {src : ℕ} → src < t.stations → {s s₁ : State} → Begin g t src s s₁ → Inv g t src s₁
begin_inv {g} {t} fits {src} station {s} (alone final' so_far' s₁ blank h call links) =
    let z = alone_looking fits station blank h call links in
    record { lim = λ x. 0; facts = z.facts; looked = λ w e u j a b l. z.looked w e u j a b l (λ q. l.listed); over = λ e r n b o. seen r b o z.final }
  where
    seen : (r : ℕ) → Below t src r → Open t s₁.final r → s₁.final ≡ final' → ⊥
    seen r b o e =
        let q : o.u ≡ src = station_only fits station (subst (λ y. Below t o.u y) (sym (root_top h b)) o.inside.below) in
        some_none call.final.at (ap final' (sym q) ∙ ap (λ (f : ℕ → Option ℕ). f o.u) (sym e) ∙ o.unvisited)
begin_inv {g} {t} fits {src} station {s} (root r d base' count' h' blank big below h ex) =
    record {
      lim = lift.to;
      facts =
          expand_facts fits (blank_facts fits station blank) inn (blank.base r) (record { at = blank.bucket r; off = λ u n. refl }) ex lift.set
          (λ p q. absurd (some_none q h)) (λ p q. absurd (some_none q h)) far_c
          (subst (λ z. Stack t src base' count' lift.to (record { node = r; began = 0 } ∷ z)) (sym blank.frames)
          (bottom (record { node = r; began = 0 }) (record { start = d / width t r; based = ex.base.at }) h below))
          (λ p q. absurd (some_none q h));
      looked = blank_looked fits station blank;
      over = λ e. absurd (cons_nil refl e);
    }
  where
    inn : Inner t r
    inn = holder fits station big below

    lift : Change (λ x. 0) r (count' r * width t r + width t r)
    lift = change (λ x. 0) r (count' r * width t r + width t r)

    far_c : (u : ℕ) (ks : List ℕ) → In t u r → s.core.final u ≡ None → Route g src ks u → count' r * width t r ≤ sum g ks
    far_c u ks k n p =
        elim (pass fits (blank_facts fits station blank) (blank_looked fits station blank) (λ q e. absurd (some_none e h)) k n p) [
          | inl a ↦ omega (arith, bucket_low d (width t r) (count' r) (sym ex.count.at), ex.lowest.least a.w a.y a.inside a.known, a.near)
          | inr a ↦ absurd (some_none a.parent h)
        ]
