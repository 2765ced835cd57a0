-- The steps that begin a visit keep the invariant.
use Rattle.std.proofs.Common.{◌≡◌, ℕ, ◌+◌, ◌*◌, ◌/◌, ◌<◌, ◌≤◌, ◌≢◌, List, ◌∷◌, Some, None, Option, sym, refl, ap, ◌∙◌, subst, inl, inr, arith}
use native.Mathlib.Decide.{ℕ_discrete}
use Rattle.network.specs.Network.{Network, Route, sum}
use Rattle.tree.specs.Tree.{Tree, Below, self, up, In, Inner, Fits, width}
use Rattle.tree.proofs.Nodes.{above_other}
use Rattle.tree.proofs.Words.{some_none, same_some}
use Rattle.walk.specs.declared.frame.Frame.{Frame}
use Rattle.walk.specs.State.{Shelf, Core, Changed, grown}
use Rattle.walk.specs.Rules.{Expand}
use Rattle.walk.specs.Steps.{Open, coarse}
use Rattle.walk.proofs.Lines.{bucket_high, width_pos}
use Rattle.walk.proofs.Invariant.{On, Expanded, line, Early, Standing, loose, fresh, visiting, through, waiting, Stack, Top, Facts}
use Rattle.walk.proofs.Keep.{slot_at, belongs_at, belongs_keep, puts_off, puts_at}
use Rattle.walk.proofs.Pass.{expanded_up}

-- a visit that goes on, as it begins
begins : {t : Tree} {count lim : ℕ → ℕ} {c began : ℕ} {f : Frame} {fs gs : List Frame} → lim c ≡ line t count c + width t c
    → ((p : ℕ) → t.parent c ≡ Some p → coarse t c p (count c) ≡ began) → record { node = c; began = began } ∷ gs ≡ f ∷ fs → Top t count lim f
begins {t} {count} {lim} {c} {began} {f} l h e =
    let z : record { node = c; began = began } ≡ f = cc in
    subst (λ (j : Frame). Top t count lim j) z (record { same = λ q. l; risen = λ p q n. absurd (n (h p q)) })

module _ {g : Network} {t : Tree} (fits : Fits g t) {src : ℕ} {s : Core} {fs : List Frame} {lim : ℕ → ℕ} (facts : Facts g t src s fs lim) where
  -- c, which waited, is visited again
  module _ {c began : ℕ} {lim' : ℕ → ℕ} (h' : Shelf) (off : ¬ On fs c) (limit : lim c ≡ line t s.count c) (set : Changed s.shelf.bucket c None h'.bucket)
      (lift : Changed lim c (line t s.count c + width t c) lim') (under : (p : ℕ) → t.parent c ≡ Some p → line t s.count c + width t c ≤ lim p)
      (stack' : Stack t src s.base s.count lim' (record { node = c; began = began } ∷ fs))
      (top' : (p : ℕ) → t.parent c ≡ Some p → coarse t c p (s.count c) ≡ began) where
    lim_up : (y : ℕ) → lim y ≤ lim' y
    lim_up y = elim (ℕ_discrete y c) [ yes z ↦ omega (arith, limit, lift.at, ap lim z, ap lim' z) | no z ↦ omega (arith, lift.off y z) ]

    again_cap : (y β : ℕ) → s.base y ≡ Some β → Dec (y ≡ c) → lim' y ≤ line t s.count y + width t y
    again_cap y β e (yes z) = rw z (omega (arith, lift.at))
    again_cap y β e (no z) = omega (arith, lift.off y z, facts.limits.cap y β e)

    again_nested : (y β p : ℕ) → s.base y ≡ Some β → Open t s.final y → t.parent y ≡ Some p → Dec (y ≡ c) → lim' y ≤ lim' p
    again_nested y β p e o h (yes z) = omega (arith, ap lim' z, lift.at, under p (ap t.parent (sym z) ∙ h), lim_up p)
    again_nested y β p e o h (no z) = omega (arith, lift.off y z, facts.limits.nested y β p e o h, lim_up p)

    again_stands : (y : ℕ) → Dec (y ≡ c) → Standing t s fs lim y (s.shelf.bucket y)
        → Standing t (grown s s.base s.count h') (record { node = c; began = began } ∷ fs) lim' y (h'.bucket y)
    again_stands y (yes z) st = visiting (inl z) (ap h'.bucket z ∙ set.at)
    again_stands y (no z) (loose h e) = loose h (set.off y z ∙ e)
    again_stands y (no z) (fresh p β h b n bel) = fresh p β h b n (belongs_at (set.off y z) bel)
    again_stands y (no z) (visiting o e) = visiting (inr o) (set.off y z ∙ e)
    again_stands y (no z) (through h a e) = through h a (set.off y z ∙ e)
    again_stands y (no z) (waiting p β δ j h b d n op l m w sl) =
        waiting p β δ j h b d (elim [ inl q ↦ z q | inr q ↦ n q ]) op l m (lift.off y z ∙ w) (slot_at (set.off y z) sl)

    pub again_facts : Facts g t src (grown s s.base s.count h') (record { node = c; began = began } ∷ fs) lim'
    again_facts =
        record {
          delays = facts.delays;
          grown = facts.grown;
          early = facts.early;
          limits = record {
            floor = λ y β e. omega (arith, facts.limits.floor y β e, lim_up y);
            cap = λ y β e. again_cap y β e (ℕ_discrete y c);
            later = λ y β e. omega (arith, facts.limits.later y β e, lim_up y);
            nested = λ y β p e o h. again_nested y β p e o h (ℕ_discrete y c);
            passed = λ y β w d e o i h. omega (arith, facts.limits.passed y β w d e o i h, lim_up y);
            far = facts.limits.far;
            room = facts.limits.room;
          };
          stands = λ y. again_stands y (ℕ_discrete y c) (facts.stands y);
          stack = stack';
          top = λ f gs e. begins lift.at top' e;
        }

  -- c is expanded, and visited for the first time; h is the shelf without it
  module _ {c d began : ℕ} {h : Shelf} {base' : ℕ → Option ℕ} {count' : ℕ → ℕ} {h' : Shelf} {lim' : ℕ → ℕ} (inn : Inner t c) (shut : s.base c ≡ None)
      (taken : Changed s.shelf.bucket c None h.bucket) (ex : Expand t s c d h base' count' h') (lift : Changed lim c (count' c * width t c + width t c) lim')
      (ups : (p : ℕ) → t.parent c ≡ Some p → Expanded s.base p) (under : (p : ℕ) → t.parent c ≡ Some p → count' c * width t c + width t c ≤ lim p)
      (far_c : (u : ℕ) (ks : List ℕ) → In t u c → s.final u ≡ None → Route g src ks u → count' c * width t c ≤ sum g ks)
      (stack' : Stack t src base' count' lim' (record { node = c; began = began } ∷ fs))
      (top' : (p : ℕ) → t.parent c ≡ Some p → coarse t c p (count' c) ≡ began) where
    -- an expanded node is not c
    other : {y β : ℕ} → s.base y ≡ Some β → y ≢ c
    other e z = some_none e (ap s.base z ∙ shut)

    kept : (y β : ℕ) → s.base y ≡ Some β → base' y ≡ Some β
    kept y β e = ex.base.off y (other e) ∙ e

    kept_expanded : {y : ℕ} → Expanded s.base y → Expanded base' y
    kept_expanded {y} e = record { start = e.start; based = kept y e.start e.based }

    was : {y β : ℕ} → y ≢ c → base' y ≡ Some β → s.base y ≡ Some β
    was {y} n e = sym (ex.base.off y n) ∙ e

    start : {y β : ℕ} → base' y ≡ Some β → y ≡ c → β ≡ d / width t c
    start e z = same_some e (ap base' z ∙ ex.base.at)

    same_line : (y : ℕ) → y ≢ c → count' y * width t y ≡ line t s.count y
    same_line y n = ap (λ a. a * width t y) (ex.count.off y n)

    -- no station of c is visited
    none_seen : {w e : ℕ} → Below t w c → w < t.stations → s.final w ≡ Some e → ⊥
    none_seen self n h = omega (arith, inn.above)
    none_seen {e = e} (up {x = w} {p = m} q b) n h = some_none (expanded_up fits facts (facts.grown.entered w e m h q) b).based shut

    inner' : (y β : ℕ) → base' y ≡ Some β → Dec (y ≡ c) → Inner t y
    inner' y β e (yes z) = rw z inn
    inner' y β e (no z) = facts.grown.inner y β (was z e)

    upward' : (y β p : ℕ) → base' y ≡ Some β → t.parent y ≡ Some p → Dec (y ≡ c) → Expanded base' p
    upward' y β p e q (yes z) = kept_expanded (ups p (ap t.parent (sym z) ∙ q))
    upward' y β p e q (no z) = kept_expanded (facts.grown.upward y β p (was z e) q)

    early' : (y β : ℕ) → base' y ≡ Some β → Dec (y ≡ c) → Early t s.final s.so_far y β
    early' y β e (no z) = facts.early y β (was z e)
    early' y β e (yes z) =
        rw (z, start e z) (record {
          at = ex.lowest.at;
          inside = ex.lowest.inside;
          d = d;
          seen = inr ex.lowest.known;
          early = bucket_high d (width t c) (d / width t c) (width_pos t c) refl;
        })

    floor' : (y β : ℕ) → base' y ≡ Some β → Dec (y ≡ c) → count' y * width t y ≤ lim' y
    floor' y β e (yes z) = rw z (omega (arith, lift.at))
    floor' y β e (no z) = omega (arith, lift.off y z, same_line y z, facts.limits.floor y β (was z e))

    cap' : (y β : ℕ) → base' y ≡ Some β → Dec (y ≡ c) → lim' y ≤ count' y * width t y + width t y
    cap' y β e (yes z) = rw z (omega (arith, lift.at))
    cap' y β e (no z) = omega (arith, lift.off y z, same_line y z, facts.limits.cap y β (was z e))

    later' : (y β : ℕ) → base' y ≡ Some β → Dec (y ≡ c) → β * width t y + width t y ≤ lim' y
    later' y β e (yes z) = rw (z, start e z) (omega (arith, lift.at, ap (λ a. a * width t c) ex.count.at))
    later' y β e (no z) = omega (arith, lift.off y z, facts.limits.later y β (was z e))

    nested' : (y β p : ℕ) → base' y ≡ Some β → Open t s.final y → t.parent y ≡ Some p → Dec (y ≡ c) → lim' y ≤ lim' p
    nested' y β p e o q (yes z) =
        let q' : t.parent c ≡ Some p = ap t.parent (sym z) ∙ q in
        omega (arith, ap lim' z, lift.at, under p q', lift.off p (other (ups p q').based))
    nested' y β p e o q (no z) =
        omega (arith, lift.off y z, facts.limits.nested y β p (was z e) o q, lift.off p (other (facts.grown.upward y β p (was z e) q).based))

    passed' : (y β w e : ℕ) → base' y ≡ Some β → Open t s.final y → In t w y → s.final w ≡ Some e → Dec (y ≡ c) → e < lim' y
    passed' y β w e b o i q (yes z) = absurd (none_seen (rw z at i.below) i.station q)
    passed' y β w e b o i q (no z) = omega (arith, lift.off y z, facts.limits.passed y β w e (was z b) o i q)

    far' : (y β u : ℕ) (ks : List ℕ) → base' y ≡ Some β → In t u y → s.final u ≡ None → Route g src ks u → Dec (y ≡ c) → count' y * width t y ≤ sum g ks
    far' y β u ks e i q p (yes z) = rw z (far_c u ks (rw z at i) q p)
    far' y β u ks e i q p (no z) = omega (arith, same_line y z, facts.limits.far y β u ks (was z e) i q p)

    room' : (y β : ℕ) → base' y ≡ Some β → Dec (y ≡ c) → count' y ≤ β + t.buckets y
    room' y β e (yes z) = omega (arith, ap count' z, ex.count.at, start e z)
    room' y β e (no z) = omega (arith, ex.count.off y z, facts.limits.room y β (was z e))

    -- a child of c is not expanded
    shut_child : {y : ℕ} → t.parent y ≡ Some c → (o : Option ℕ) → s.base y ≡ o → s.base y ≡ None
    shut_child q None e = e
    shut_child {y} q (Some β) e = absurd (other (facts.grown.upward y β c e q).based refl)

    stands' : (y : ℕ) → Dec (y ≡ c) → (o : Option ℕ) → t.parent y ≡ o → Standing t s fs lim y (s.shelf.bucket y)
        → Standing t (grown s base' count' h') (record { node = c; began = began } ∷ fs) lim' y (h'.bucket y)
    stands' y (yes z) o q st = visiting (inl z) (ap h'.bucket z ∙ puts_off c (λ a. above_other fits (fits.child c c a) self refl) ex.puts ∙ taken.at)
    stands' y (no z) o q st = pick o q
      where
        plain : t.parent y ≢ Some c → Standing t (grown s base' count' h') (record { node = c; began = began } ∷ fs) lim' y (h'.bucket y)
        plain n = go st
          where
            same : h'.bucket y ≡ s.shelf.bucket y
            same = puts_off y (λ a. n (fits.child c y a)) ex.puts ∙ taken.off y z

            go : Standing t s fs lim y (s.shelf.bucket y) → Standing t (grown s base' count' h') (record { node = c; began = began } ∷ fs) lim' y (h'.bucket y)
            go (loose q e) = loose (λ p r. ex.base.off p (λ w. n (r ∙ ap Some w)) ∙ q p r) (same ∙ e)
            go (fresh p β q b m bel) = fresh p β q (kept p β b) (ex.base.off y z ∙ m) (belongs_keep (λ u i. refl) kept (belongs_at same bel))
            go (visiting o e) = visiting (inr o) (same ∙ e)
            go (through q a e) = through (kept_expanded q) a (same ∙ e)
            go (waiting p β δ j q b e m op l k w sl) =
                waiting p β δ j q (kept p β b) (kept y δ e) (elim [ inl r ↦ z r | inr r ↦ m r ]) op (l ∙ sym (same_line y z))
                (omega (arith, k, ex.count.off p (other b))) (lift.off y z ∙ w ∙ sym (same_line y z)) (slot_at same sl)

        pick : (o : Option ℕ) → t.parent y ≡ o → Standing t (grown s base' count' h') (record { node = c; began = began } ∷ fs) lim' y (h'.bucket y)
        pick None q = plain (λ r. some_none r q)
        pick (Some p) q = elim (ℕ_discrete p c) [
          | yes r ↦ (let q' : t.parent y ≡ Some c = q ∙ ap Some r in fresh c (d / width t c) q' ex.base.at
              (ex.base.off y z ∙ shut_child q' (s.base y) refl) (puts_at y (fits.once c) (fits.listed c y q') ex.puts))
          | no r ↦ plain (λ w. r (same_some q w))
        ]

    pub expand_facts : Facts g t src (grown s base' count' h') (record { node = c; began = began } ∷ fs) lim'
    expand_facts =
        record {
          delays = facts.delays;
          grown = record {
            inner = λ y β e. inner' y β e (ℕ_discrete y c);
            entered = λ w e p q r. kept_expanded (facts.grown.entered w e p q r);
            upward = λ y β p e q. upward' y β p e q (ℕ_discrete y c);
          };
          early = λ y β e. early' y β e (ℕ_discrete y c);
          limits = record {
            floor = λ y β e. floor' y β e (ℕ_discrete y c);
            cap = λ y β e. cap' y β e (ℕ_discrete y c);
            later = λ y β e. later' y β e (ℕ_discrete y c);
            nested = λ y β p e o q. nested' y β p e o q (ℕ_discrete y c);
            passed = λ y β w e b o i q. passed' y β w e b o i q (ℕ_discrete y c);
            far = λ y β u ks e i q p. far' y β u ks e i q p (ℕ_discrete y c);
            room = λ y β e. room' y β e (ℕ_discrete y c);
          };
          stands = λ y. stands' y (ℕ_discrete y c) (t.parent y) refl (facts.stands y);
          stack = stack';
          top = λ f gs e. begins lift.at top' e;
        }
