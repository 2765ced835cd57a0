-- A network has one component tree.
use Rattle.std.proofs.Common.{◌≡◌, ℕ, zero, suc, ◌+◌, ◌-◌, ◌^◌, ◌<◌, ◌≤◌, ◌⊎◌, List, [], ◌∷◌, Some, None, Option, sym, refl, ap, ◌∙◌, subst, inl, inr, arith}
use native.Mathlib.Decide.{dec_lt}
use Rattle.network.specs.Lists.{Among}
use Rattle.network.specs.Network.{Network}
use Rattle.tree.specs.Components.{Components, Within, Rising, Laid, rounded_up}
use Rattle.tree.specs.Laws.{Agree}
use Rattle.tree.specs.Tree.{Tree, Inner, width}
use Rattle.tree.proofs.Totals.{total_same}
use Rattle.tree.proofs.Holding.{low, above_inner, above_later, within_level, same_node}
use Rattle.tree.proofs.Places.{child_earlier}
use Rattle.tree.proofs.Same.{stations_same, nodes_same, same, there, back, above_there, spread_most}

-- a list of nodes with rising lowest stations is determined by its elements
rising_same :
    (t t' : Tree) (cs ds : List ℕ) → ((d : ℕ) → Among d cs → t'.lowest d ≡ t.lowest d) → Rising t cs → Rising t' ds
    → ((d : ℕ) → Among d cs → Among d ds) → ((d : ℕ) → Among d ds → Among d cs) → ds ≡ cs
rising_same t t' [] [] s r r' f h = refl
rising_same t t' [] (d ∷ ds) s r r' f h = elim (h d (inl refl)) [ ]
rising_same t t' (c ∷ cs) [] s r r' f h = elim (f c (inl refl)) [ ]
rising_same t t' (c ∷ cs) (d ∷ ds) s r r' f h =
    go (f c (inl refl)) (h d (inl refl)) (λ p q. rising_same t t' cs ds (λ k a. s k (inr a)) r.1 r'.1 p q)
  where
    heads : c ≡ d → (((d : ℕ) → Among d cs → Among d ds) → ((d : ℕ) → Among d ds → Among d cs) → ds ≡ cs) → (d ∷ ds) ≡ (c ∷ cs)
    heads z again = ap (λ k. k ∷ ds) (sym z) ∙ ap (λ ks. c ∷ ks) (again (λ k a. later k a (f k (inr a))) (λ k a. later' k a (h k (inr a))))
      where
        later : (k : ℕ) → Among k cs → (k ≡ d) ⊎ Among k ds → Among k ds
        later k a (inr b) = b
        later k a (inl q) = absurd (omega (arith, r.0 k a, ap t.lowest (q ∙ sym z)))

        later' : (k : ℕ) → Among k ds → (k ≡ c) ⊎ Among k cs → Among k cs
        later' k a (inr b) = b
        later' k a (inl q) = absurd (omega (arith, r'.0 k a, ap t'.lowest (q ∙ z)))

    go :
        (c ≡ d) ⊎ Among c ds → (d ≡ c) ⊎ Among d cs
        → (((d : ℕ) → Among d cs → Among d ds) → ((d : ℕ) → Among d ds → Among d cs) → ds ≡ cs) → (d ∷ ds) ≡ (c ∷ cs)
    go (inl z) q again = heads z again
    go (inr a) (inl z) again = heads (sym z) again
    go (inr a) (inr b) again = absurd (omega (arith, r.0 d b, r'.0 c a, s d (inr b), s c (inl refl)))

-- runs of equal lengths, laid from the same place on, are the same
laid_size :
    (t t' : Tree) (cs : List ℕ) (p q p' q' : ℕ) → Laid t cs p q → Laid t' cs p' q'
    → ((d : ℕ) → Among d cs → t.high d + t'.low d ≡ t'.high d + t.low d) → q + p' ≡ q' + p
laid_size t t' [] p q p' q' l l' f = omega arith
laid_size t t' (c ∷ cs) p q p' q' l l' f =
    omega (arith, l.0, l'.0, f c (inl refl), laid_size t t' cs (suc (t.high c)) q (suc (t'.high c)) q' l.1 l'.1 (λ d a. f d (inr a)))

laid_low :
    (t t' : Tree) (cs : List ℕ) (p q p' q' : ℕ) → p ≡ p' → Laid t cs p q → Laid t' cs p' q'
    → ((d : ℕ) → Among d cs → t.high d + t'.low d ≡ t'.high d + t.low d) → (d : ℕ) → Among d cs → t'.low d ≡ t.low d
laid_low t t' [] p q p' q' e l l' f d a = elim a [ ]
laid_low t t' (c ∷ cs) p q p' q' e l l' f d (inl z) = omega (arith, l.0, l'.0, ap t.low z, ap t'.low z)
laid_low t t' (c ∷ cs) p q p' q' e l l' f d (inr a) =
    laid_low t t' cs (suc (t.high c)) q (suc (t'.high c)) q' (omega (arith, f c (inl refl), l.0, l'.0)) l.1 l'.1 (λ d a. f d (inr a)) d a

module _ {g : Network} {t t' : Tree} (c : Components g t) (c' : Components g t') where
  parent_same : (x : ℕ) → x < t.nodes → t'.parent x ≡ t.parent x
  parent_same x h = go (t.parent x) (t'.parent x) refl refl
    where
      h' : x < t'.nodes
      h' = omega (arith, nodes_same c c')

      go : (o o' : Option ℕ) → t.parent x ≡ o → t'.parent x ≡ o' → t'.parent x ≡ t.parent x
      go None None p q = q ∙ sym p
      go None (Some y) p q = absurd (c.root x y p h (above_there c' c x y h' (c'.parent x y q).above))
      go (Some y) None p q = absurd (c'.root x y q h' (above_there c c' x y h (c.parent x y p).above))
      go (Some y) (Some z) p q =
          let a = c.parent x y p in
          let b = c'.parent x z q in
          let az = above_there c' c x z h' b.above in
          let w : Within g t y z = a.smallest z az in
          let w' : Within g t z y = λ u k. back c c' y u a.above.node (b.smallest y (above_there c c' x y h a.above) u (there c c' z u az.node k)) in
          let l : t.level y ≡ t.level z = omega (arith, within_level c (above_inner c a.above) w, within_level c (above_inner c az) w') in
          let s : y ≡ z = same_node c a.above.node az.node l (low g t y) (w (t.lowest y) (low g t y)) in
          q ∙ ap Some (sym s) ∙ sym p

  no_parent : (x : ℕ) → t.nodes ≤ x → t.parent x ≡ None
  no_parent x h = go (t.parent x) refl
    where
      go : (o : Option ℕ) → t.parent x ≡ o → t.parent x ≡ None
      go None e = e
      go (Some p) e = absurd (omega (arith, (c.parent x p e).node))

module _ {g : Network} {t t' : Tree} (c : Components g t) (c' : Components g t') where
  parent_all : (x : ℕ) → t'.parent x ≡ t.parent x
  parent_all x =
      elim (dec_lt x t.nodes) [
        | yes l ↦ parent_same c c' x l
        | no l ↦ no_parent c' c x (omega (arith, nodes_same c c')) ∙ sym (no_parent c c' x (omega arith))
      ]

  children_same : (x : ℕ) → t'.children x ≡ t.children x
  children_same x =
      rising_same t t' (t.children x) (t'.children x) (λ d a. (same c c' d (c.parent d x ((c.children x d).0 a)).node).lowest) (c.rising x) (c'.rising x)
      (λ d a. (c'.children x d).1 (parent_all d ∙ (c.children x d).0 a)) (λ d a. (c.children x d).1 (sym (parent_all d) ∙ (c'.children x d).0 a))

  roots_same : c'.roots ≡ c.roots
  roots_same =
      rising_same t t' c.roots c'.roots (λ d a. (same c c' d ((c.tops d).0 a).0).lowest) c.rising_roots c'.rising_roots
      (λ d a. let z = (c.tops d).0 a in (c'.tops d).1 (omega (arith, z.0, nodes_same c c'), parent_all d ∙ z.1))
      (λ d a. let z = (c'.tops d).0 a in (c.tops d).1 (omega (arith, z.0, nodes_same c c'), sym (parent_all d) ∙ z.1))

  spread_same : (x : ℕ) → x < t.nodes → t'.spread x ≡ t.spread x
  spread_same x h = omega (arith, spread_most c c' x h, spread_most c' c x (omega (arith, nodes_same c c')))

  buckets_same : (x : ℕ) → x < t.nodes → t'.buckets x ≡ t.buckets x
  buckets_same x h = go (dec_lt x t.stations)
    where
      e : t'.stations ≡ t.stations
      e = stations_same c c'

      go : Dec (x < t.stations) → t'.buckets x ≡ t.buckets x
      go (yes s) = c'.no_buckets x (omega (arith, e)) ∙ sym (c.no_buckets x s)
      go (no s) =
          c'.buckets x (record { above = omega (arith, e); below = omega (arith, nodes_same c c') })
          ∙ ap (λ z. rounded_up z (width t' x) + 1) (spread_same x h)
          ∙ ap (λ i. rounded_up (t.spread x) (2 ^ (i - 1)) + 1) (same c c' x h).level
          ∙ sym (c.buckets x (record { above = omega arith; below = h }))

  first_same : (x : ℕ) → Inner t x → t'.first x ≡ t.first x
  first_same x i =
      c'.numbered x (record { above = omega (arith, i.above, stations_same c c'); below = omega (arith, i.below, nodes_same c c') })
      ∙ total_same t.buckets t'.buckets x (λ y l. buckets_same y (omega (arith, i.below)))
      ∙ sym (c.numbered x i)

  size_below : (n x : ℕ) → x < n → x < t.nodes → t.high x + t'.low x ≡ t'.high x + t.low x
  size_below zero x l h = absurd (omega arith)
  size_below (suc n) x l h =
      go (dec_lt x t.stations) (λ d a. size_below n d (omega (arith, child_earlier c a)) (c.parent d x ((c.children x d).0 a)).node)
    where
      e : t'.stations ≡ t.stations
      e = stations_same c c'

      go : Dec (x < t.stations) → ((d : ℕ) → Among d (t.children x) → t.high d + t'.low d ≡ t'.high d + t.low d) → t.high x + t'.low x ≡ t'.high x + t.low x
      go (yes s) f = omega (arith, c.seat_low x s, c.seat_high x s, c'.seat_low x (omega (arith, e)), c'.seat_high x (omega (arith, e)))
      go (no s) f =
          let l' = subst (λ cs. Laid t' cs (t'.low x) (suc (t'.high x))) (children_same x) (c'.laid x (record { above = omega (arith, e); below = omega (arith, nodes_same c c') })) in
          omega (arith, laid_size t t' (t.children x) (t.low x) (suc (t.high x)) (t'.low x) (suc (t'.high x)) (c.laid x (record { above = omega arith; below = h })) l' f)

  size : (x : ℕ) → x < t.nodes → t.high x + t'.low x ≡ t'.high x + t.low x
  size x h = size_below (suc x) x (omega arith) h

  low_from : (fuel x : ℕ) → t.nodes ≤ fuel + x → x < t.nodes → t'.low x ≡ t.low x
  low_from zero x m h = absurd (omega arith)
  low_from (suc fuel) x m h = go (t.parent x) refl (λ p k n. low_from fuel p k n)
    where
      go : (o : Option ℕ) → t.parent x ≡ o → ((p : ℕ) → t.nodes ≤ fuel + p → p < t.nodes → t'.low p ≡ t.low p) → t'.low x ≡ t.low x
      go None e later =
          let l' = subst (λ cs. Laid t' cs 0 t'.stations) roots_same c'.laid_roots in
          laid_low t t' c.roots 0 t.stations 0 t'.stations refl c.laid_roots l' (λ d a. size d ((c.tops d).0 a).0) x ((c.tops x).1 (h, e))
      go (Some p) e later =
          let q = c.parent x p e in
          let i = above_inner c q.above in
          let i' : Inner t' p = record { above = omega (arith, i.above, stations_same c c'); below = omega (arith, i.below, nodes_same c c') } in
          let l' = subst (λ cs. Laid t' cs (t'.low p) (suc (t'.high p))) (children_same p) (c'.laid p i') in
          let z = later p (omega (arith, above_later c h q.above)) i.below in
          laid_low t t' (t.children p) (t.low p) (suc (t.high p)) (t'.low p) (suc (t'.high p)) (sym z) (c.laid p i) l' (λ d a. size d (c.parent d p ((c.children p d).0 a)).node) x ((c.children p x).1 e)

  low_same : (x : ℕ) → x < t.nodes → t'.low x ≡ t.low x
  low_same x h = low_from t.nodes x (omega arith) h

  pub agree : Agree t t'
  agree =
      record {
        stations = stations_same c c';
        nodes = nodes_same c c';
        level = λ x h. (same c c' x h).level;
        lowest = λ x h. (same c c' x h).lowest;
        parent = λ x h. parent_all x;
        children = λ x h. children_same x;
        spread = spread_same;
        buckets = buckets_same;
        first = first_same;
        low = low_same;
        high = λ x h. omega (arith, size x h, low_same x h);
        place = λ u s.
            let h : u < t.nodes = omega (arith, c.all_stations) in
            omega (arith, low_same u h, c.seat_low u s, c'.seat_low u (omega (arith, stations_same c c')));
      }
