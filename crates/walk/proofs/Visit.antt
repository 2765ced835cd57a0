-- Visiting a station keeps the invariant.
use Rattle.std.proofs.Common.{◌≡◌, ℕ, suc, ◌+◌, ◌<◌, ◌≢◌, ◌⊎◌, List, ◌∷◌, length, Some, None, Option, sym, ap, ◌∙◌, subst, inl, inr, arith}
use native.Mathlib.Decide.{ℕ_discrete}
use Rattle.network.specs.Network.{Network, Least, delay}
use Rattle.tree.specs.Tree.{Tree, Below, self, up, In, Fits}
use Rattle.tree.proofs.Nodes.{station_only}
use Rattle.tree.proofs.Words.{some_none, same_some}
use Rattle.walk.specs.declared.frame.Frame.{Frame}
use Rattle.walk.specs.State.{Shelf, Core, State, Changed, called}
use Rattle.walk.specs.Rules.{unknown, Call, Link, next}
use Rattle.walk.specs.Steps.{Open, Going, Taken, Visiting}
use Rattle.walk.proofs.Invariant.{On, Expanded, Found, Known, Early, Standing, loose, fresh, visiting, through, waiting, Facts, LookedTo, Looked, Inv}
use Rattle.walk.proofs.Keep.{cons_nil, slot_at, belongs_at, belongs_keep, above_on, front_one, the_stack}
use Rattle.walk.proofs.Look.{Looking, links_looking}
use Rattle.walk.proofs.Pass.{limits_up}
use Rattle.walk.proofs.Take.{Ripe, ripe}

-- v becomes final at d, its least delay, and stands nowhere
module _ {g : Network} {t : Tree} (fits : Fits g t) {src : ℕ} {s : Core} {fs : List Frame} {lim : ℕ → ℕ} (facts : Facts g t src s fs lim)
    {v d : ℕ} (station : v < t.stations) (least : Least g src v d)
    (home : (p : ℕ) → t.parent v ≡ Some p → Expanded s.base p)
    (before : (x β : ℕ) → s.base x ≡ Some β → Below t v x → d < lim x)
    (sole : (c p β : ℕ) → t.parent c ≡ Some p → s.base p ≡ Some β → s.base c ≡ None → Below t v c → c ≡ v)
    (waits : (c : ℕ) → Expanded s.base c → ¬ On fs c → ¬ Below t v c)
    {final' so_far' : ℕ → Option ℕ} (call : Call s v d final' so_far') (h' : Shelf) (off : Changed s.shelf.bucket v None h'.bucket) where
  still : (u : ℕ) → final' u ≡ None → (u ≢ v) × (s.final u ≡ None)
  still u h = let n : u ≢ v = λ e. some_none call.final.at (ap final' (sym e) ∙ h) in (n, sym (call.final.off u n) ∙ h)

  open_before : {x : ℕ} → Open t final' x → Open t s.final x
  open_before o = record { u = o.u; inside = o.inside; unvisited = (still o.u o.unvisited).1 }

  exact' : (w e : ℕ) → final' w ≡ Some e → Dec (w ≡ v) → Least g src w e
  exact' w e h (yes z) = let q : e ≡ d = same_some (ap final' (sym z) ∙ h) call.final.at in rw (z, q) least
  exact' w e h (no z) = facts.delays.exact w e (sym (call.final.off w z) ∙ h)

  found' : (u y : ℕ) → so_far' u ≡ Some y → Dec (u ≡ v) → Found g t src final' u y
  found' u y e (yes z) = absurd (some_none e (ap so_far' z ∙ call.so_far.at))
  found' u y e (no z) =
      let f = facts.delays.found u y (sym (call.so_far.off u z) ∙ e) in
      record { station = f.station; unvisited = call.final.off u z ∙ f.unvisited; attained = f.attained }

  start' : Dec (src ≡ v) → (s.final src ≡ Some 0) ⊎ (s.so_far src ≡ Some 0) → (final' src ≡ Some 0) ⊎ (so_far' src ≡ Some 0)
  start' (yes z) (inl a) = absurd (some_none (ap s.final (sym z) ∙ a) (facts.delays.found v d call.known).unvisited)
  start' (yes z) (inr a) = let q : d ≡ 0 = same_some (ap s.so_far z ∙ call.known) a in inl (ap final' z ∙ call.final.at ∙ ap Some q)
  start' (no z) (inl a) = inl (call.final.off src z ∙ a)
  start' (no z) (inr a) = inr (call.so_far.off src z ∙ a)

  early' : {x β : ℕ} (r : Early t s.final s.so_far x β) → (s.final r.at ≡ Some r.d) ⊎ (s.so_far r.at ≡ Some r.d) → Dec (r.at ≡ v)
      → Early t final' so_far' x β
  early' r (inl h) (yes z) = absurd (some_none (ap s.final (sym z) ∙ h) (facts.delays.found v d call.known).unvisited)
  early' r (inr h) (yes z) =
      let q : r.d ≡ d = same_some (ap s.so_far (sym z) ∙ h) call.known in
      record { at = r.at; inside = r.inside; d = r.d; seen = inl (ap final' z ∙ call.final.at ∙ ap Some (sym q)); early = r.early }
  early' r (inl h) (no z) = record { at = r.at; inside = r.inside; d = r.d; seen = inl (call.final.off r.at z ∙ h); early = r.early }
  early' r (inr h) (no z) = record { at = r.at; inside = r.inside; d = r.d; seen = inr (call.so_far.off r.at z ∙ h); early = r.early }

  passed' : (x β w e : ℕ) → s.base x ≡ Some β → Open t final' x → In t w x → final' w ≡ Some e → Dec (w ≡ v) → e < lim x
  passed' x β w e b o i h (yes z) = let q : e ≡ d = same_some (ap final' (sym z) ∙ h) call.final.at in omega (arith, before x β b (rw z at i.below))
  passed' x β w e b o i h (no z) = facts.limits.passed x β w e b (open_before o) i (sym (call.final.off w z) ∙ h)

  stands' : (c : ℕ) → Dec (c ≡ v) → Standing t s fs lim c (s.shelf.bucket c) → Standing t (called s final' so_far' h') fs lim c (h'.bucket c)
  stands' c (yes z) st = rw z (go (rw z at st))
    where
      inn : {γ : ℕ} → s.base v ≡ Some γ → ⊥
      inn {γ} e = omega (arith, (facts.grown.inner v γ e).above)

      go : Standing t s fs lim v (s.shelf.bucket v) → Standing t (called s final' so_far' h') fs lim v (h'.bucket v)
      go (loose h e) = loose h off.at
      go (fresh p β h b n bel) = fresh p β h b n (unknown (λ u i. ap so_far' (station_only fits station i.below) ∙ call.so_far.at) off.at)
      go (visiting o e) = visiting o off.at
      go (through e a q) = absurd (inn e.based)
      go (waiting p β γ k h b e n o l m w sl) = absurd (inn e)
  stands' c (no z) st = go st
    where
      same : h'.bucket c ≡ s.shelf.bucket c
      same = off.off c z

      go : Standing t s fs lim c (s.shelf.bucket c) → Standing t (called s final' so_far' h') fs lim c (h'.bucket c)
      go (loose h e) = loose h (same ∙ e)
      go (fresh p β h b n bel) =
          fresh p β h b n (belongs_at same (belongs_keep (λ u i. call.so_far.off u (λ q. z (sole c p β h b n (rw q at i.below)))) (λ x γ e. e) bel))
      go (visiting o e) = visiting o (same ∙ e)
      go (through e a q) = through e (λ o. a (open_before o)) (same ∙ q)
      go (waiting p β γ k h b e n o l m w sl) =
          waiting p β γ k h b e n (record {
            u = o.u;
            inside = o.inside;
            unvisited = call.final.off o.u (λ q. waits c (record { start = γ; based = e }) n (rw q at o.inside.below)) ∙ o.unvisited;
          })
          l m w (slot_at same sl)

  pub call_facts : Facts g t src (called s final' so_far' h') fs lim
  call_facts =
      record {
        delays =
            record {
              exact = λ w e h. exact' w e h (ℕ_discrete w v);
              found = λ u y e. found' u y e (ℕ_discrete u v);
              start = start' (ℕ_discrete src v) facts.delays.start;
            };
        grown = record {
          inner = facts.grown.inner;
          entered =
              λ w e p h q. elim (ℕ_discrete w v) [
                | yes z ↦ home p (ap t.parent (sym z) ∙ q)
                | no z ↦ facts.grown.entered w e p (sym (call.final.off w z) ∙ h) q
              ];
          upward = facts.grown.upward;
        };
        early = λ x β e. let r = facts.early x β e in early' r r.seen (ℕ_discrete r.at v);
        limits = record {
          floor = facts.limits.floor;
          cap = facts.limits.cap;
          later = facts.limits.later;
          nested = λ x β p e o. facts.limits.nested x β p e (open_before o);
          passed = λ x β w e b o i h. passed' x β w e b o i h (ℕ_discrete w v);
          far = λ x β u ks e i h. facts.limits.far x β u ks e i (still u h).1;
          room = facts.limits.room;
        };
        stands = λ c. stands' c (ℕ_discrete c v) (facts.stands c);
        stack = facts.stack;
        top = facts.top;
      }

  pub call_looked : Looked g s.final s.so_far → LookedTo g final' so_far' v 0
  call_looked looked w e u j a b l m = go (ℕ_discrete w v)
    where
      go : Dec (w ≡ v) → Known so_far' u (e + delay g j)
      go (yes z) = absurd (omega (arith, m z))
      go (no z) =
          let k = looked w e u j (sym (call.final.off w z) ∙ a) (still u b).1 l in
          record { y = k.y; known = call.so_far.off u (still u b).0 ∙ k.known; near = k.near }

-- a station that take hands over
module _ {g : Network} {t : Tree} (fits : Fits g t) {src : ℕ} {s : Core} {fs : List Frame} {lim : ℕ → ℕ} (facts : Facts g t src s fs lim)
    (looked : Looked g s.final s.so_far)
    {f : Frame} {gs : List Frame} (ef : fs ≡ f ∷ gs) (going : Going t s f) {v d : ℕ} {h' : Shelf} (tk : Taken t s f.node v h') (n : v < t.stations)
    {final' so_far' : ℕ → Option ℕ} (call : Call s v d final' so_far') where
  all : Ripe fits facts f.node v d
  all = ripe fits facts looked ef going tk n call.known

  -- what holds it is the top, or holds the top
  over : {y : ℕ} → Expanded s.base y → Below t v y → Below t f.node y
  over e self = absurd (some_none e.based all.new.shut)
  over e (up {p = m} h b) = let q : m ≡ f.node = same_some h all.new.parent in rw q at b

  x_expanded : Expanded s.base f.node
  x_expanded = record { start = tk.now.start; based = tk.now.based }

  home : (p : ℕ) → t.parent v ≡ Some p → Expanded s.base p
  home p h = let q : p ≡ f.node = same_some h all.new.parent in record { start = tk.now.start; based = ap s.base q ∙ tk.now.based }

  before : (x β : ℕ) → s.base x ≡ Some β → Below t v x → d < lim x
  before x β e b = omega (arith, all.short, limits_up fits facts tk.now.start tk.now.based going.more (over (record { start = β; based = e }) b))

  sole : (c p β : ℕ) → t.parent c ≡ Some p → s.base p ≡ Some β → s.base c ≡ None → Below t v c → c ≡ v
  sole c p β h e m b = front_one fits facts b self h (record { start = β; based = e }) m all.new.parent x_expanded all.new.shut

  waits : (c : ℕ) → Expanded s.base c → ¬ On fs c → ¬ Below t v c
  waits c e o b = o (subst (λ z. On z c) (sym ef) (above_on (the_stack fits facts ef) (over e b)))

  pub visit_facts : Facts g t src (called s final' so_far' h') fs lim
  visit_facts = call_facts fits facts n all.least home before sole waits call h' tk.off

  pub visit_looked : LookedTo g final' so_far' v 0
  visit_looked = call_looked fits facts n all.least home before sole waits call h' tk.off looked

-- one link more
pub next_link : {g : Network} {t : Tree} {s : State} {v d k : ℕ} {s₁ s₂ : Core} → Visiting g t s v d k s₁ → Link g t v d k s₁ s₂ → Visiting g t s v d (suc k) s₂
next_link vis l =
    record {
      f = vis.f;
      fs = vis.fs;
      top = vis.top;
      going = vis.going;
      h' = vis.h';
      taken = vis.taken;
      station = vis.station;
      final' = vis.final';
      so_far' = vis.so_far';
      call = vis.call;
      links = next vis.links l;
    }

-- in the midst of its links, and past them
pub visiting_looking : {g : Network} {t : Tree} (fits : Fits g t) {src : ℕ} {s : State} {v d k : ℕ} {s₁ : Core} (i : Inv g t src s) (vis : Visiting g t s v d k s₁)
    → Looking g t src v k (called s.core vis.final' vis.so_far' vis.h') s₁ s.frames i.lim
visiting_looking fits i vis =
    let f = visit_facts fits i.facts i.looked vis.top vis.going vis.taken vis.station vis.call in
    let l = visit_looked fits i.facts i.looked vis.top vis.going vis.taken vis.station vis.call in
    links_looking fits f vis.call.final.at l vis.links

pub visit_step : {g : Network} {t : Tree} (fits : Fits g t) {src : ℕ} {s : State} {v d : ℕ} {s₁ : Core} → Inv g t src s → Visiting g t s v d (length g.rows) s₁
    → Inv g t src (record { core = s₁; frames = s.frames })
visit_step fits i vis =
    let z = visiting_looking fits i vis in
    record { lim = i.lim; facts = z.facts; looked = λ w e u j a b l. z.looked w e u j a b l (λ q. l.listed); over = λ e. absurd (cons_nil vis.top e) }
