-- The next put and the next link can always be made.
use Rattle.std.proofs.Common.{◌≡◌, ℕ, suc, ◌+◌, ◌-◌, ◌/◌, ◌<◌, ◌≤◌, Bool, true, false, ◌⊎◌, List, [], ◌∷◌, length, get_or, Some, None, Option, refl, ap, ◌∙◌, subst, inl, inr, arith}
use native.Mathlib.Decide.{ℕ_discrete, dec_le}
use lib.Pow.{shr_mono}
use Rattle.network.specs.Network.{Network, Hop, row, delay}
use Rattle.tree.specs.Tree.{Tree, Fits, width, Among, Distinct}
use Rattle.network.proofs.Routes.{other_end}
use Rattle.tree.proofs.Nodes.{in_parent}
use Rattle.tree.proofs.Words.{some_none, same_some}
use Rattle.walk.specs.declared.frame.Frame.{Frame}
use Rattle.walk.specs.State.{Shelf, Core, Changed, lowered}
use Rattle.walk.specs.Rules.{Lowest, Belongs, Counted, nothing, one, Placed, Moved, there, moved, Front, Link, skip, keep, lower, Puts, done, put, Expand}
use Rattle.walk.proofs.Invariant.{Found, Facts}
use Rattle.walk.proofs.Keep.{Change, change}
use Rattle.walk.proofs.Look.{found'}
use Rattle.walk.proofs.Ready.{Place, place, granted, front_of, start_le}

-- what it adds to the count
pub record Adds (t : Tree) (c : ℕ) (b : Option ℕ) (puts : ℕ) : Type 0 where
  pub puts' : ℕ
  pub counted : Counted t c b puts puts'
  pub at_most : puts' ≤ suc puts

adds : {g : Network} {t : Tree} (fits : Fits g t) {so_far base : ℕ → Option ℕ} {c puts : ℕ} {b : Option ℕ} → puts < 65535 → Belongs t so_far base c b → Adds t c b puts
adds {g} {t} fits {so_far} {base} {c} {puts} {b} few bel = go b refl
  where
    go : (o : Option ℕ) → b ≡ o → Adds t c b puts
    go None e = record { puts' = puts; counted = nothing e refl; at_most = omega arith }
    go (Some k) e = record { puts' = suc puts; counted = one k e (granted fits few bel e) refl; at_most = omega arith }

same_bucket : (o b : Option ℕ) → Dec (o ≡ b)
same_bucket None None = yes refl
same_bucket None (Some b) = no (λ e. some_none e refl)
same_bucket (Some a) None = no (λ e. some_none refl e)
same_bucket (Some a) (Some b) = elim (ℕ_discrete a b) [ yes e ↦ yes (ap Some e) | no e ↦ no (λ q. e (same_some {o = Some a} refl q)) ]

record Moves (t : Tree) (c : ℕ) (b : Option ℕ) (h : Shelf) : Type 0 where
  pub h' : Shelf
  pub move : Moved t c b h h'

moves : {g : Network} {t : Tree} (fits : Fits g t) {so_far base : ℕ → Option ℕ} {c : ℕ} {b : Option ℕ} (h : Shelf) → h.puts < 65535
    → Belongs t so_far base c b → Moves t c b h
moves {g} {t} fits {so_far} {base} {c} {b} h few bel = go (same_bucket (h.bucket c) b)
  where
    go : Dec (h.bucket c ≡ b) → Moves t c b h
    go (yes e) = record { h' = h; move = there e refl }
    go (no e) =
        let a = adds fits few bel in let n = change h.bucket c b in record {
          h' = record { bucket = n.to; puts = a.puts' };
          move = moved e n.set a.counted;
        }

pub record Places (t : Tree) (c : ℕ) (b : Option ℕ) (h : Shelf) : Type 0 where
  pub h' : Shelf
  pub placed : Placed t c b h h'
  pub at_most : h'.puts ≤ suc h.puts

pub places : {g : Network} {t : Tree} (fits : Fits g t) {so_far base : ℕ → Option ℕ} {c : ℕ} {b : Option ℕ} (h : Shelf) → h.puts < 65535
    → h.bucket c ≡ None → Belongs t so_far base c b → Places t c b h
places fits {c = c} {b = b} h few free bel =
    let a = adds fits few bel in
    let n = change h.bucket c b in
    record { h' = record { bucket = n.to; puts = a.puts' }; placed = record { free = free; set = n.set; counted = a.counted }; at_most = a.at_most }

-- children that stand nowhere can be put, if the shelf has not been put on too often
pub record PutAll (t : Tree) (so_far base : ℕ → Option ℕ) (cs : List ℕ) (h : Shelf) : Type 0 where
  pub h' : Shelf
  pub puts : Puts t so_far base cs h h'

put_all : {g : Network} {t : Tree} (fits : Fits g t) {so_far base : ℕ → Option ℕ} (cs : List ℕ) → Distinct cs → ((c : ℕ) → Among c cs → Place t so_far base c)
    → (h : Shelf) → ((c : ℕ) → Among c cs → h.bucket c ≡ None) → h.puts + length cs ≤ 65535 → PutAll t so_far base cs h
put_all fits [] d f h free few = record { h' = h; puts = done }
put_all fits (c ∷ cs) d f h free few =
    let p = f c (inl refl) in
    let a = places fits h (omega (arith, few)) (free c (inl refl)) p.belongs in
    let r = put_all fits cs d.1 (λ y m. f y (inr m)) a.h'
    (λ y m. a.placed.set.off y (λ z. d.0 (subst (λ u. Among u cs) z m)) ∙ free y (inr m)) (omega (arith, few, a.at_most)) in
    record { h' = r.h'; puts = put p.b p.belongs a.placed r.puts }

-- a node with a least can be expanded
pub record Expands (t : Tree) (s : Core) (x d : ℕ) (h : Shelf) : Type 0 where
  pub base' : ℕ → Option ℕ
  pub count' : ℕ → ℕ
  pub h' : Shelf
  pub expand : Expand t s x d h base' count' h'

pub expands : {g : Network} {t : Tree} (fits : Fits g t) {s : Core} {x d : ℕ} → Lowest t s.so_far x d → (h : Shelf)
    → ((c : ℕ) → t.parent c ≡ Some x → h.bucket c ≡ None) → h.puts + length (t.children x) ≤ 65535 → Expands t s x d h
expands {g} {t} fits {s} {x} {d} l h free few =
    let r = put_all fits (t.children x) (fits.once x) belongs h (λ c m. free c (fits.child x c m)) few in
    record { base' = nb.to; count' = nc.to; h' = r.h'; expand = record { lowest = l; base = nb.set; count = nc.set; puts = r.puts } }
  where
    nb : Change s.base x (Some (d / width t x))
    nb = change s.base x (Some (d / width t x))

    nc : Change s.count x (d / width t x)
    nc = change s.count x (d / width t x)

    belongs : (c : ℕ) → Among c (t.children x) → Place t s.so_far nb.to c
    belongs c m =
        let q = fits.child x c m in
        place fits q (record { start = d / width t x; based = nb.set.at })
        (λ e k. shr_mono {a = d} {b = e} (t.level x - 1) (l.least k.at e (in_parent q k.inside) k.known))

-- whether the link k is in service and at v, and where it leads
leads : (g : Network) (k v : ℕ) → k < length g.rows → ((u : ℕ) × Hop g k v u) ⊎ ((u : ℕ) → ¬ Hop g k v u)
leads g k v h = go (get_or g.service k false) refl (ℕ_discrete (row g k).from v) (ℕ_discrete (row g k).to v)
  where
    off : get_or g.service k false ≡ false → (u : ℕ) → ¬ Hop g k v u
    off e u j = let z : ◌≡◌ {A = ℕ} 0 1 = cc (e, j.up) in omega arith

    go : (o : Bool) → get_or g.service k false ≡ o → Dec ((row g k).from ≡ v) → Dec ((row g k).to ≡ v) → ((u : ℕ) × Hop g k v u) ⊎ ((u : ℕ) → ¬ Hop g k v u)
    go false e p q = inr (off e)
    go true e (yes p) q = inl ((row g k).to, record { listed = h; up = e; ends = inl (p, refl) })
    go true e (no p) (yes q) = inl ((row g k).from, record { listed = h; up = e; ends = inr (refl, q) })
    go true e (no p) (no q) = inr (λ u j. elim j.ends [ inl z ↦ p z.0 | inr z ↦ q z.1 ])

pub record Follows (g : Network) (t : Tree) (v d k : ℕ) (s : Core) : Type 0 where
  pub to : Core
  pub link : Link g t v d k s to

module _ {g : Network} {t : Tree} (fits : Fits g t) {src : ℕ} {s : Core} {fs : List Frame} {lim : ℕ → ℕ} (facts : Facts g t src s fs lim)
    {v d : ℕ} (station : v < t.stations) (seen : s.final v ≡ Some d) where
  -- where the front of a lowered station belongs
  pub lowered_place : {u c k : ℕ} {so_far' : ℕ → Option ℕ} → Hop g k v u → s.final u ≡ None → Changed s.so_far u (Some (d + delay g k)) so_far'
      → Front t s.base u c → Place t so_far' s.base c
  lowered_place {u} {c} {k} {so_far'} j n low front =
      place fits front.parent (record { start = front.start; based = front.based })
      (λ e l. let f = found l in start_le fits facts (record { start = front.start; based = front.based }) (in_parent front.parent l.inside)
      f.unvisited f.attained)
    where
      found : {e : ℕ} (l : Lowest t so_far' c e) → Found g t src s.final l.at e
      found {e} l = found' fits facts seen j n low l.at e l.known (ℕ_discrete l.at u)

  pub follow : {k : ℕ} → s.shelf.puts < 65535 → k < length g.rows → Follows g t v d k s
  follow {k} few h = go (leads g k v h)
    where
      low : (u : ℕ) → Hop g k v u → s.final u ≡ None → ((y : ℕ) → s.so_far u ≡ Some y → d + delay g k < y) → Follows g t v d k s
      low u j n nearer =
          let a = change s.so_far u (Some (d + delay g k)) in
          let fr = front_of fits facts station seen n j in
          let p = lowered_place j n a.set fr.front in
          let m = moves fits s.shelf few p.belongs in
          record { to = lowered s a.to m.h'; link = lower u fr.c p.b a.to m.h' j n nearer a.set fr.front p.belongs m.move }

      known : (u : ℕ) → Hop g k v u → s.final u ≡ None → (o : Option ℕ) → s.so_far u ≡ o → Follows g t v d k s
      known u j n None e = low u j n (λ y q. absurd (some_none q e))
      known u j n (Some y) e = pick (dec_le y (d + delay g k))
        where
          pick : Dec (y ≤ d + delay g k) → Follows g t v d k s
          pick (yes l) = record { to = s; link = keep u y j n e l }
          pick (no l) = low u j n (λ z q. let w : y ≡ z = same_some e q in omega arith)

      state : (u : ℕ) → Hop g k v u → (o : Option ℕ) → s.final u ≡ o → Follows g t v d k s
      state u j (Some e) q = record { to = s; link = skip (λ w i n. some_none q (ap s.final (other_end j i) ∙ n)) }
      state u j None q = known u j q (s.so_far u) refl

      go : ((u : ℕ) × Hop g k v u) ⊎ ((u : ℕ) → ¬ Hop g k v u) → Follows g t v d k s
      go (inr n) = record { to = s; link = skip (λ u j. absurd (n u j)) }
      go (inl (u, j)) = state u j (s.final u) refl
