-- What the calls on a shelf of chains read and leave, over the shelf itself: e is the node that was read.
use Rattle.std.proofs.Common.{◌≡◌, ℕ, ◌+◌, ◌<◌, ◌≤◌, List, length, map, get_or, set, Some, None, vec_len, sym, refl, ap, ◌∙◌, arith, rules, ◌≢◌, Option}
use Rattle.std.specs.List.{range_with_len}
use Rattle.std.proofs.lemmas.List.FromFn.{length-map-range_with_len, get_or-map-range_with_len}
use mathlib.Core.Logic.{∥∥₁_elim, ∥∥₁_map}
use Rattle.std.proofs.lemmas.List.{map-set, get_or-map, length-map}
use Rattle.std.proofs.Math.Seq.{map-set_same}
use Rattle.shelf.specs.Holds.{Holds, Bare, all_nowhere, bucket_at, cleared, lifted, placed, uncounted}
use Rattle.shelf.specs.Means.{marks_hold}
use Rattle.shelf.specs.declared.marks.Marks.{Marks}
use Rattle.shelf_chains.specs.Means.{chains_hold}
use Rattle.shelf_chains.specs.Rings.{Ringed, lone, nexts, prevs, to}
use Rattle.shelf_chains.specs.declared.chains.Chains.{Chains}
use Rattle.shelf_chains.specs.declared.chains.Neighbours.{Neighbours}
use Rattle.shelf_chains.proofs.Linking.{Sizes, before_low, after_low, first_low, ringed_unlink, ringed_link, ring_bare, ring_first, ringed_alone}
use Rattle.std.proofs.Props.{props}
use Rattle.shelf.proofs.Seats.{all_none, listed, none_blank}

-- a write that keeps a node's next one, or its previous one
next_kept : (ring : List Neighbours) (i x : ℕ) (a : Neighbours) → a ≡ get_or ring i a → nexts (set ring i (record { next = a.next; prev = x })) ≡ nexts ring
next_kept ring i x a e = map-set_same (λ (k : Neighbours). k.next) ring i (record { next = a.next; prev = x }) a (ap (λ (k : Neighbours). k.next) e)

prev_kept : (ring : List Neighbours) (i x : ℕ) (a : Neighbours) → a ≡ get_or ring i a → prevs (set ring i (record { next = x; prev = a.prev })) ≡ prevs ring
prev_kept ring i x a e = map-set_same (λ (k : Neighbours). k.prev) ring i (record { next = x; prev = a.prev }) a (ap (λ (k : Neighbours). k.prev) e)

-- the list after p got q as its next node, and q got r as its previous one: a and b were read there
abbrev joined : List Neighbours → (p q r s : ℕ) → Neighbours → Neighbours → List Neighbours
joined ring p q r s a b = set (set ring p (record { next = q; prev = a.prev })) r (record { next = b.next; prev = s })

module _ (ring : List Neighbours) (p q r s : ℕ) (a b : Neighbours) (ae : a ≡ get_or ring p a)
    (be : b ≡ get_or (set ring p (record { next = q; prev = a.prev })) r b) where
  nexts_joined : nexts (joined ring p q r s a b) ≡ set (nexts ring) p q
  nexts_joined =
      next_kept (set ring p (record { next = q; prev = a.prev })) r s b be
      ∙ map-set (λ (k : Neighbours). k.next) ring p (record { next = q; prev = a.prev })

  prevs_joined : prevs (joined ring p q r s a b) ≡ set (prevs ring) r s
  prevs_joined =
      map-set (λ (k : Neighbours). k.prev) (set ring p (record { next = q; prev = a.prev })) r (record { next = b.next; prev = s })
      ∙ ap (λ (l : List ℕ). set l r s) (prev_kept ring p q a ae)

-- an item that is not nowhere is somewhere
somewhere : (o : Option ℕ) → o ≢ None → (b : ℕ) × (o ≡ Some b)
somewhere None h = absurd (h refl)
somewhere (Some b) h = (b, refl)

module _ (s : Chains) where
  sizes : Sizes (chains_hold s) (nexts s.ring.items) (prevs s.ring.items)
  sizes = record { sized = search rules; nexts = simp length-map (search rules); prevs = simp length-map (search rules) }

  -- what is read of a node
  next_read : (k : ℕ) (e : Neighbours) → k < vec_len s.ring → e ≡ get_or s.ring.items k e → to (nexts s.ring.items) k ≡ e.next
  next_read k e lt is =
      get_or-map (λ (n : Neighbours). n.next) s.ring.items k e 0 (search rules) ∙ ap (λ (n : Neighbours). n.next) (sym is)

  prev_read : (k : ℕ) (e : Neighbours) → k < vec_len s.ring → e ≡ get_or s.ring.items k e → to (prevs s.ring.items) k ≡ e.prev
  prev_read k e lt is =
      get_or-map (λ (n : Neighbours). n.prev) s.ring.items k e 0 (search rules) ∙ ap (λ (n : Neighbours). n.prev) (sym is)

  module _ (i : ℕ) (e : Neighbours) (in_ring : bucket_at (chains_hold s) i ≢ None) (is : e ≡ get_or s.ring.items i e) where
    home : (b : ℕ) × (bucket_at (chains_hold s) i ≡ Some b)
    home = somewhere (bucket_at (chains_hold s) i) in_ring

    node : i < vec_len s.ring
    node = let l = listed (chains_hold s).at i home.0 home.1 in omega (arith, sizes.sized, s.nodes)

    pub next_low : e.next < vec_len s.ring
    next_low = ∥∥₁_elim s.ringed (hlevel props) (λ r.
        let l = after_low sizes r i home.0 home.1 in
        let x = next_read i e node is in
        omega (arith, s.nodes))

    pub prev_low : e.prev < vec_len s.ring
    prev_low = ∥∥₁_elim s.ringed (hlevel props) (λ r.
        let l = before_low sizes r i home.0 home.1 in
        let x = prev_read i e node is in
        omega (arith, s.nodes))

    -- the rings after the item left them
    pub unlinked : (m : Marks) (a b : Neighbours) → marks_hold m ≡ lifted (chains_hold s) i
        → a ≡ get_or s.ring.items e.prev a → b ≡ get_or (set s.ring.items e.prev (record { next = e.next; prev = a.prev })) e.next b
        → ∥ Ringed (marks_hold m) (nexts (joined s.ring.items e.prev e.next e.next e.prev a b)) (prevs (joined s.ring.items e.prev e.next e.next e.prev a b)) ∥₁
    unlinked m a b me ae be = ∥∥₁_map s.ringed (λ r.
        rw (me, nexts_joined s.ring.items e.prev e.next e.next e.prev a b ae be, prevs_joined s.ring.items e.prev e.next e.next e.prev a b ae be, sym (next_read i e node is), sym (prev_read i e node is))
        (ringed_unlink sizes r i home.0 home.1))

  -- the node after that of a bucket
  module _ (b j : ℕ) (e : Neighbours) (exists : b < s.marks.buckets) (at : j ≡ (chains_hold s).items + b) (is : e ≡ get_or s.ring.items j e) where
    head_read : to (nexts s.ring.items) ((chains_hold s).items + b) ≡ e.next
    head_read = ap (to (nexts s.ring.items)) (sym at) ∙ next_read j e (omega (arith, s.nodes)) is

    pub first_within : e.next < vec_len s.ring
    first_within = ∥∥₁_elim s.ringed (hlevel props) (λ r.
        let l = first_low sizes r b exists in
        let x = head_read in
        omega (arith, s.nodes))

    -- it is no item: the bucket has none; it is an item: one of the bucket
    pub bare_ring : (chains_hold s).items ≤ e.next → Bare (chains_hold s) b
    bare_ring le i h = ∥∥₁_elim s.ringed (hlevel props) (λ r.
        let x = head_read in
        ring_bare sizes r b exists (omega arith) i h)

    pub first_of_ring : e.next < (chains_hold s).items → bucket_at (chains_hold s) e.next ≡ Some b
    first_of_ring lt = ∥∥₁_elim s.ringed (hlevel props) (λ r.
        let x = head_read in
        ap (bucket_at (chains_hold s)) (sym x) ∙ ring_first sizes r b exists (omega arith))

    -- the rings after an item came between the two
    pub linked : (i : ℕ) (m : Marks) (x y : Neighbours) → i < (chains_hold s).items → bucket_at (chains_hold s) i ≡ None → marks_hold m ≡ placed (chains_hold s) i b
        → x ≡ get_or (set s.ring.items i (record { next = e.next; prev = j })) j x
        → y ≡ get_or (set (set s.ring.items i (record { next = e.next; prev = j })) j (record { next = i; prev = x.prev })) e.next y
        → ∥ Ringed (marks_hold m) (nexts (joined (set s.ring.items i (record { next = e.next; prev = j })) j i e.next i x y))
        (prevs (joined (set s.ring.items i (record { next = e.next; prev = j })) j i e.next i x y)) ∥₁
    linked i m x y lt none me xe ye = ∥∥₁_map s.ringed (λ r.
        let new : Neighbours = record { next = e.next; prev = j } in
        rw (me, nexts_joined (set s.ring.items i new) j i e.next i x y xe ye, prevs_joined (set s.ring.items i new) j i e.next i x y xe ye, map-set (λ (k : Neighbours). k.next) s.ring.items i new, map-set (λ (k : Neighbours). k.prev) s.ring.items i new, sym head_read, at)
        (ringed_link sizes r i b lt exists none))

  -- where each item has left its ring, a new count leaves a shelf that was cleared
  pub swept : ((k : ℕ) → k < (chains_hold s).items → bucket_at (chains_hold s) k ≡ None) → uncounted (chains_hold s) ≡ cleared (chains_hold s)
  swept none =
      let h = chains_hold s in
      let fresh : List (Option ℕ) → Holds = λ at. record { items = h.items; buckets = h.buckets; at = at; puts = 0 } in
      ap fresh (all_none h.at h.items sizes.sized none)

  -- and the rings are those of such a shelf
  pub emptied : (m : Marks) → marks_hold m ≡ uncounted (chains_hold s) → ((k : ℕ) → k < (chains_hold s).items → bucket_at (chains_hold s) k ≡ None)
      → ∥ Ringed (marks_hold m) (nexts s.ring.items) (prevs s.ring.items) ∥₁
  emptied m me none = ∥∥₁_map s.ringed (λ r.
      rw me
      (record { ahead = r.ahead; behind = r.behind; ranked = r.ranked }))

-- nodes that each are alone, with every item nowhere
alone_at : (f : Neighbours → ℕ) → ((k : ℕ) → f (lone k) ≡ k) → (n k : ℕ) → k < n → to (map f (map lone (range_with_len 0 n))) k ≡ k
alone_at f same n k lt =
    let low : k < length (map lone (range_with_len 0 n)) = simp (length-map-range_with_len lone) lt in
    get_or-map f (map lone (range_with_len 0 n)) k (lone 0) 0 low
    ∙ ap f (get_or-map-range_with_len lone 0 n k k (lone 0) lt (omega arith)) ∙ same k

pub all_alone : (m : Marks) (ring : List Neighbours) (items buckets : ℕ) → marks_hold m ≡ all_nowhere items buckets
    → ring ≡ map lone (range_with_len 0 (items + buckets)) → Ringed (marks_hold m) (nexts ring) (prevs ring)
all_alone m ring items buckets me re =
    rw (me, re) (ringed_alone (none_blank items)
    (alone_at (λ (e : Neighbours). e.next) (λ k. refl) (items + buckets)) (alone_at (λ (e : Neighbours). e.prev) (λ k. refl) (items + buckets)))
