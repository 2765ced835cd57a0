-- Taking an inner node keeps the invariant.
use Rattle.std.proofs.Common.{◌≡◌, ℕ, suc, ◌+◌, ◌*◌, ◌/◌, ◌<◌, ◌≤◌, ◌≢◌, ◌⊎◌, List, ◌∷◌, Some, None, Option, sym, refl, ap, ◌∙◌, subst, inl, inr, arith}
use Rattle.network.specs.Network.{Network, Route, sum}
use Rattle.tree.specs.Tree.{Tree, self, In, Inner, Fits, width}
use Rattle.tree.proofs.Nodes.{node_of, above_other}
use Rattle.tree.proofs.Words.{some_none, same_some}
use Rattle.walk.specs.declared.frame.Frame.{Frame}
use Rattle.walk.specs.State.{Shelf, State}
use Rattle.walk.specs.Rules.{Expand}
use Rattle.walk.specs.Steps.{Going, Taken, coarse, entered}
use Rattle.walk.proofs.Lines.{suc_line, bucket_low, bucket_high, coarse_next, coarse_least, coarse_line, width_pos}
use Rattle.walk.proofs.Invariant.{On, Expanded, line, Stack, above, Inv}
use Rattle.walk.proofs.Keep.{Change, change, cons_nil, lowest_one, restack, the_stack, child_off}
use Rattle.walk.proofs.Pass.{pass}
use Rattle.walk.proofs.Take.{New, Again, item}
use Rattle.walk.proofs.Enter.{again_facts, expand_facts}

module _ {g : Network} {t : Tree} (fits : Fits g t) {src : ℕ} {s : State} (i : Inv g t src s) {f : Frame} {fs : List Frame} (ef : s.frames ≡ f ∷ fs)
    (going : Going t s.core f)
    {c : ℕ} {h : Shelf} (tk : Taken t s.core f.node c h) where
  limit : i.lim f.node ≡ line t s.core.count f.node + width t f.node
  limit = (i.facts.top f fs ef).same going.same

  -- a new stack, of c on those that were
  push : {base' : ℕ → Option ℕ} {count' lim' : ℕ → ℕ} (began : ℕ) → t.parent c ≡ Some f.node
      → ((x : ℕ) → Expanded s.core.base x → Expanded base' x) → Expanded base' c
      → ((x : ℕ) → x ≢ c → (count' x ≡ s.core.count x) × (lim' x ≡ i.lim x)) → began ≡ s.core.count f.node
      → Stack t src base' count' lim' (record { node = c; began = began } ∷ s.frames)
  push {base'} {count'} {lim'} began h kept e same b =
      subst (λ z. Stack t src base' count' lim' (record { node = c; began = began } ∷ z)) (sym ef)
      (above (record { node = c; began = began }) f fs e h (b ∙ sym q.0) (λ p r. ap (coarse t f.node p) q.0 ∙ going.same p r)
      (q.1 ∙ limit ∙ ap (λ z. z * width t f.node + width t f.node) (sym q.0))
      (restack kept (λ x o. same x (λ z. child_off fits i.facts ef h (subst (λ y. On y c) (sym ef) (inr (subst (λ y. On fs y) z o)))))
      (the_stack fits i.facts ef)))
    where
      q : (count' f.node ≡ s.core.count f.node) × (lim' f.node ≡ i.lim f.node)
      q = same f.node (λ z. above_other fits h self (sym z))

  pub again_step : {β : ℕ} → s.core.base c ≡ Some β → Inv g t src (entered s c (coarse t c f.node (s.core.count c)) s.core.base s.core.count h)
  again_step {β} based = go (item fits i.facts going.more tk)
    where
      go : New t s.core f.node c ⊎ Again t s.core s.frames i.lim f.node c
          → Inv g t src (entered s c (coarse t c f.node (s.core.count c)) s.core.base s.core.count h)
      go (inl n) = absurd (some_none based n.shut)
      go (inr a) =
          record {
            lim = lift.to;
            facts = again_facts fits i.facts h a.off a.limit tk.off lift.set under
                (push (coarse t c f.node (s.core.count c)) a.parent (λ x e. e) a.expanded (λ x n. (refl, lift.set.off x n))
                (coarse_line fits a.parent inn (s.core.count c) (s.core.count f.node) a.level))
                (λ p h. ap (λ z. coarse t c z (s.core.count c)) (same_some h a.parent));
            looked = i.looked;
            over = λ e. absurd (cons_nil refl e);
          }
        where
          inn : Inner t c
          inn = i.facts.grown.inner c β based

          lift : Change i.lim c (line t s.core.count c + width t c)
          lift = change i.lim c (line t s.core.count c + width t c)

          under : (p : ℕ) → t.parent c ≡ Some p → line t s.core.count c + width t c ≤ i.lim p
          under p h =
              let z : p ≡ f.node = same_some h a.parent in
              omega (
                arith,
                ap i.lim z,
                limit,
                a.level,
                suc_line (s.core.count f.node) (width t f.node),
                coarse_next fits a.parent inn (s.core.count c) (suc (s.core.count f.node))
                    (omega (arith, a.level, suc_line (s.core.count f.node) (width t f.node), width_pos t f.node)),
              )

  pub expand_step : {d : ℕ} {base' : ℕ → Option ℕ} {count' : ℕ → ℕ} {h' : Shelf} → t.stations ≤ c → s.core.base c ≡ None
      → Expand t s.core c d h base' count' h'
      → Inv g t src (entered s c (coarse t c f.node (count' c)) base' count' h')
  expand_step {d} {base'} {count'} {h'} big shut ex = go (item fits i.facts going.more tk)
    where
      go : New t s.core f.node c ⊎ Again t s.core s.frames i.lim f.node c
          → Inv g t src (entered s c (coarse t c f.node (count' c)) base' count' h')
      go (inr a) = absurd (some_none a.expanded.based shut)
      go (inl a) =
          record {
            lim = lift.to;
            facts = expand_facts fits i.facts inn shut tk.off ex lift.set ups under far_c
                (push (coarse t c f.node (count' c)) a.parent (λ x e. record {
                  start = e.start;
                  based = ex.base.off x (λ z. some_none e.based (ap s.core.base z ∙ shut)) ∙ e.based;
                })
                (record { start = d / width t c; based = ex.base.at }) (λ x n. (ex.count.off x n, lift.set.off x n)) began)
                (λ p h. ap (λ z. coarse t c z (count' c)) (same_some h a.parent));
            looked = i.looked;
            over = λ e. absurd (cons_nil refl e);
          }
        where
          inn : Inner t c
          inn = record { above = big; below = node_of fits a.parent }

          lift : Change i.lim c (count' c * width t c + width t c)
          lift = change i.lim c (count' c * width t c + width t c)

          -- its least is in the bucket of the top's counter
          spot : d / width t f.node ≡ s.core.count f.node
          spot = ap (λ z. z / width t f.node) (lowest_one ex.lowest a.lowest) ∙ a.here

          low : count' c * width t c ≤ d
          low = bucket_low d (width t c) (count' c) (sym ex.count.at)

          high : count' c * width t c < suc (s.core.count f.node) * width t f.node
          high = omega (
            arith,
            low,
            suc_line (s.core.count f.node) (width t f.node),
            bucket_high d (width t f.node) (s.core.count f.node) (width_pos t f.node) spot,
          )

          ups : (p : ℕ) → t.parent c ≡ Some p → Expanded s.core.base p
          ups p h = let z : p ≡ f.node = same_some h a.parent in record { start = tk.now.start; based = ap s.core.base z ∙ tk.now.based }

          under : (p : ℕ) → t.parent c ≡ Some p → count' c * width t c + width t c ≤ i.lim p
          under p h =
              let z : p ≡ f.node = same_some h a.parent in
              omega (
                arith,
                ap i.lim z,
                limit,
                suc_line (s.core.count f.node) (width t f.node),
                coarse_next fits a.parent inn (count' c) (suc (s.core.count f.node)) high,
              )

          far_c : (u : ℕ) (ks : List ℕ) → In t u c → s.core.final u ≡ None → Route g src ks u → count' c * width t c ≤ sum g ks
          far_c u ks k n p =
              elim (pass fits i.facts i.looked ups k n p) [
                | inl b ↦ omega (arith, low, ex.lowest.least b.w b.y b.inside b.known, b.near)
                | inr b ↦ omega (arith, b.long, under b.p b.parent)
              ]

          began : coarse t c f.node (count' c) ≡ s.core.count f.node
          began = ap (coarse t c f.node) ex.count.at ∙ coarse_least fits a.parent inn d ∙ spot
