-- What stays true of where a child belongs and of the frames when a part of the state changes.
use Rattle.std.proofs.Common.{◌≡◌, ℕ, ◌+◌, ◌*◌, ◌≢◌, ◌⊎◌, List, [], ◌∷◌, Some, None, Option, sym, refl, ap, ◌∙◌, subst, inl, inr, arith}
use native.Mathlib.Decide.{ℕ_discrete}
use Rattle.network.specs.Network.{Network}
use Rattle.tree.specs.Tree.{Tree, Below, self, up, In, Fits, width, Among, Distinct}
use Rattle.tree.proofs.Nodes.{nest, root_top, above_other}
use Rattle.tree.proofs.Words.{some_none, same_some}
use Rattle.walk.specs.declared.frame.Frame.{Frame}
use Rattle.walk.specs.State.{Shelf, Core, Changed}
use Rattle.walk.specs.Rules.{Lowest, Belongs, falls, unknown, Slot, within, past, Moved, there, moved, Puts, done, put}
use Rattle.walk.specs.Steps.{coarse}
use Rattle.walk.proofs.Pass.{expanded_up}
use Rattle.walk.proofs.Invariant.{On, Expanded, line, Stack, empty, bottom, above, Facts}

-- a function with one value changed
pub record Change {A : Type 0} (f : ℕ → A) (v : ℕ) (x : A) : Type 0 where
  pub to : ℕ → A
  pub set : Changed f v x to

pub change : {A : Type 0} (f : ℕ → A) (v : ℕ) (x : A) → Change f v x
change {A} f v x = record { to = new; set = record { at = at (ℕ_discrete v v); off = λ u n. off u n (ℕ_discrete u v) } }
  where
    pick : (u : ℕ) → Dec (u ≡ v) → A
    pick u (yes e) = x
    pick u (no n) = f u

    new : ℕ → A
    new u = pick u (ℕ_discrete u v)

    at : (d : Dec (v ≡ v)) → pick v d ≡ x
    at (yes e) = refl
    at (no n) = absurd (n refl)

    off : (u : ℕ) → u ≢ v → (d : Dec (u ≡ v)) → pick u d ≡ f u
    off u n (yes e) = absurd (n e)
    off u n (no m) = refl

pub cons_nil : {fs gs : List Frame} {f : Frame} → fs ≡ f ∷ gs → fs ≡ [] → ⊥
cons_nil p q = let z : ◌≡◌ {A = ℕ} 0 1 = cc in omega arith

-- where a child belongs
pub slot_at : {t : Tree} {x k : ℕ} {b b' : Option ℕ} → b' ≡ b → Slot t x k b → Slot t x k b'
slot_at z (within l e) = within l (z ∙ e)
slot_at z (past l e) = past l (z ∙ e)

pub belongs_at : {t : Tree} {so_far base : ℕ → Option ℕ} {c : ℕ} {b b' : Option ℕ} → b' ≡ b → Belongs t so_far base c b → Belongs t so_far base c b'
belongs_at z (falls x k f l) = falls x k f (slot_at z l)
belongs_at z (unknown a e) = unknown a (z ∙ e)

pub lowest_one : {t : Tree} {so_far : ℕ → Option ℕ} {c d e : ℕ} → Lowest t so_far c d → Lowest t so_far c e → d ≡ e
lowest_one {d = d} {e = e} l m = omega (arith, l.least m.at e m.inside m.known, m.least l.at d l.inside l.known)

lowest_keep : {t : Tree} {so_far so_far' : ℕ → Option ℕ} {c d : ℕ} → ((u : ℕ) → In t u c → so_far' u ≡ so_far u) → Lowest t so_far c d → Lowest t so_far' c d
lowest_keep h l = record { at = l.at; inside = l.inside; known = h l.at l.inside ∙ l.known; least = λ u y i e. l.least u y i (sym (h u i) ∙ e) }

pub belongs_keep : {t : Tree} {so_far so_far' base base' : ℕ → Option ℕ} {c : ℕ} {b : Option ℕ} → ((u : ℕ) → In t u c → so_far' u ≡ so_far u)
    → ((x β : ℕ) → base x ≡ Some β → base' x ≡ Some β) → Belongs t so_far base c b → Belongs t so_far' base' c b
belongs_keep h g (unknown a e) = unknown (λ u i. h u i ∙ a u i) e
belongs_keep h g (falls x k f l) =
    falls x k (record {
      parent = f.parent;
      start = f.start;
      based = g x f.start f.based;
      least = f.least;
      lowest = lowest_keep h f.lowest;
      spot = f.spot;
    }) l

pub moved_set : {t : Tree} {c : ℕ} {b : Option ℕ} {h h' : Shelf} → Moved t c b h h' → Changed h.bucket c b h'.bucket
moved_set {c = c} (there a e) = record { at = ap (λ (k : Shelf). k.bucket c) e ∙ a; off = λ u n. ap (λ (k : Shelf). k.bucket u) e }
moved_set (moved n c k) = c

-- children that are put stand where they belong, and nothing else has moved
pub puts_off : {t : Tree} {so_far base : ℕ → Option ℕ} {cs : List ℕ} {h h' : Shelf} (y : ℕ) → ¬ Among y cs → Puts t so_far base cs h h' → h'.bucket y ≡ h.bucket y
puts_off y n done = refl
puts_off y n (put b bel p r) = puts_off y (λ a. n (inr a)) r ∙ p.set.off y (λ e. n (inl e))

pub puts_at : {t : Tree} {so_far base : ℕ → Option ℕ} {cs : List ℕ} {h h' : Shelf} (y : ℕ) → Distinct cs → Among y cs → Puts t so_far base cs h h'
    → Belongs t so_far base y (h'.bucket y)
puts_at y d a done = elim a [ ]
puts_at y d (inl e) (put {c = c} b bel p r) = rw e (belongs_at (puts_off c d.0 r ∙ p.set.at) bel)
puts_at y d (inr a) (put b bel p r) = puts_at y d.1 a r

-- the stack speaks of the counters and limits below its top alone
abbrev pub OnTail : List Frame → ℕ → Type 0
OnTail [] x = ⊥
OnTail (f ∷ fs) x = On fs x

pub restack : {t : Tree} {src : ℕ} {base base' : ℕ → Option ℕ} {count count' lim lim' : ℕ → ℕ} {fs : List Frame} → ((x : ℕ) → Expanded base x → Expanded base' x)
    → ((x : ℕ) → OnTail fs x → (count' x ≡ count x) × (lim' x ≡ lim x)) → Stack t src base count lim fs → Stack t src base' count' lim' fs
restack h k empty = empty
restack h k (bottom f e n b) = bottom f (h f.node e) n b
restack {t} h k (above f g fs e p m a l r) =
    let q = k g.node (inl refl) in
    above f g fs (h f.node e) p (m ∙ sym q.0) (λ y i. ap (coarse t g.node y) q.0 ∙ a y i)
    (q.1 ∙ l ∙ ap (λ z. z * width t g.node + width t g.node) (sym q.0))
    (restack h (λ x o. k x (inr o)) r)

-- the frames below the top hold it in the tree
module _ {t : Tree} {src : ℕ} {base : ℕ → Option ℕ} {count lim : ℕ → ℕ} where
  pub on_above : {f : Frame} {fs : List Frame} {y : ℕ} → Stack t src base count lim (f ∷ fs) → On fs y → (p : ℕ) × (t.parent f.node ≡ Some p) × Below t p y
  on_above (bottom f e n b) o = elim o [ ]
  on_above (above f h fs e p m a l r) (inl z) = (h.node, p, rw z self)
  on_above (above f h fs e p m a l r) (inr o) = let q = on_above r o in (h.node, p, up q.1 q.2)

  pub on_below : {f : Frame} {fs : List Frame} {y : ℕ} → Stack t src base count lim (f ∷ fs) → On (f ∷ fs) y → Below t f.node y
  on_below r (inl z) = rw z self
  on_below r (inr o) = let q = on_above r o in up q.1 q.2

  -- and what holds the top has a frame
  pub above_on : {f : Frame} {fs : List Frame} {y : ℕ} → Stack t src base count lim (f ∷ fs) → Below t f.node y → On (f ∷ fs) y
  above_on (bottom f e n b) r = inl (sym (root_top n r))
  above_on {y = y} (above f h fs e p m a l k) r = go r p (λ z. above_on k z)
    where
      go : {x : ℕ} → Below t x y → t.parent x ≡ Some h.node → (Below t h.node y → On (h ∷ fs) y) → (y ≡ x) ⊎ On (h ∷ fs) y
      go self q later = inl refl
      go (up {p = o} q r) q' later = let z : o ≡ h.node = cc in inr (later (rw z at r))

  pub top_expanded : {f : Frame} {fs : List Frame} → Stack t src base count lim (f ∷ fs) → Expanded base f.node
  top_expanded (bottom f e n b) = e
  top_expanded (above f h fs e p m a l r) = e

  -- the parent of the top is the next frame, and its counter is where the visit began
  pub began_at : {f : Frame} {fs : List Frame} {p : ℕ} → Stack t src base count lim (f ∷ fs) → t.parent f.node ≡ Some p
      → (f.began ≡ count p) × (lim p ≡ line t count p + width t p)
  began_at (bottom f e n b) h = absurd (some_none h n)
  began_at {p = q} (above f g fs e p m a l r) h =
      let z : g.node ≡ q = same_some p h in
      (m ∙ ap count z, ap lim (sym z) ∙ l ∙ ap (λ a. line t count a + width t a) z)

module _ {g : Network} {t : Tree} (fits : Fits g t) {src : ℕ} {s : Core} {fs : List Frame} {lim : ℕ → ℕ} (facts : Facts g t src s fs lim) where
  -- there is one unexpanded node that holds u and whose parent is expanded
  front_below : {a b x : ℕ} → t.parent a ≡ Some x → Expanded s.base x → s.base b ≡ None → Below t a b → a ≡ b
  front_below p e m self = refl
  front_below {b = b} {x = x} p e m (up {p = q} h r) = let z : q ≡ x = same_some h p in absurd (some_none (expanded_up fits facts e (rw z at r)).based m)

  pub front_one : {u a b x y : ℕ} → Below t u a → Below t u b → t.parent a ≡ Some x → Expanded s.base x → s.base a ≡ None → t.parent b ≡ Some y
      → Expanded s.base y → s.base b ≡ None → a ≡ b
  front_one i j p e n q f m = elim (nest i j) [ inl h ↦ front_below p e m h | inr h ↦ sym (front_below q f n h) ]

  module _ {f : Frame} {gs : List Frame} (ef : fs ≡ f ∷ gs) where
    pub the_stack : Stack t src s.base s.count lim (f ∷ gs)
    the_stack = subst (λ z. Stack t src s.base s.count lim z) ef facts.stack

    -- a child of the top has no frame
    pub child_off : {c : ℕ} → t.parent c ≡ Some f.node → ¬ On fs c
    child_off {c} h o = above_other fits h (on_below the_stack (subst (λ z. On z c) ef o)) refl
