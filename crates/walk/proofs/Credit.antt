-- How often a walk puts: each node once as its parent is expanded, once more for each bucket of its parent that its counter has passed, and once for each link.
use Rattle.std.proofs.Common.{◌≡◌, ℕ, suc, ◌+◌, ◌-◌, ◌^◌, ◌<◌, ◌≤◌, false, cond, ◌≢◌, ◌⊎◌, List, [], ◌∷◌, length, get_or, Some, None, Option, sym, refl, ap, ◌∙◌, subst, inl, inr, arith, pow_pos}
use native.Mathlib.Decide.{ℕ_discrete}
use Rattle.network.specs.Network.{Network, Hop}
use Rattle.tree.specs.Totals.{total}
use Rattle.tree.specs.Tree.{Tree, Fits, Sized, Among, Distinct}
use Rattle.network.proofs.Routes.{either_end}
use Rattle.tree.proofs.Nodes.{node_of}
use Rattle.tree.proofs.Totals.{total_mono, total_ones, total_changed}
use Rattle.tree.proofs.Words.{some_none, same_some}
use Rattle.walk.specs.declared.frame.Frame.{Frame}
use Rattle.walk.specs.State.{Shelf, Core, lowered, called}
use Rattle.walk.specs.Rules.{nothing, one, Moved, there, moved, Link, skip, keep, lower, Links, begun, next, Call}
use Rattle.walk.specs.Steps.{coarse}
use Rattle.walk.specs.Laws.{in_service, most_moves}
use Rattle.walk.proofs.Lines.{bucket_add}
use Rattle.walk.proofs.Invariant.{On}
use Rattle.walk.proofs.Keep.{Change, change}
use Rattle.walk.proofs.Look.{links_alike}

abbrev pub Has : List Frame → Frame → Type 0
Has [] f = ⊥
Has (h ∷ fs) f = (f ≡ h) ⊎ Has fs f

pub has_on : (fs : List Frame) (f : Frame) → Has fs f → On fs f.node
has_on [] f h = elim h [ ]
has_on (g ∷ fs) f (inl e) = inl (ap (λ (f : Frame). f.node) e)
has_on (g ∷ fs) f (inr h) = inr (has_on fs f h)

-- the first put of c, as its parent was expanded
pub record Firsts (t : Tree) (base : ℕ → Option ℕ) (first : ℕ → ℕ) : Type 0 where
  pub one : (c : ℕ) → first c ≤ 1
  pub none : (c : ℕ) → ((p : ℕ) → t.parent c ≡ Some p → base p ≡ None) → first c ≡ 0

-- the puts of x at the end of a visit: no more than its counter has passed lines of its parent's, and fewer while it is visited
pub record Mores (t : Tree) (base : ℕ → Option ℕ) (count : ℕ → ℕ) (fs : List Frame) (more : ℕ → ℕ) : Type 0 where
  pub shut : (x : ℕ) → base x ≡ None → more x ≡ 0
  pub root : (x : ℕ) → t.parent x ≡ None → more x ≡ 0
  pub most : (x β p : ℕ) → base x ≡ Some β → t.parent x ≡ Some p → more x + coarse t x p β ≤ coarse t x p (count x)
  pub on : (f : Frame) → Has fs f → (β p : ℕ) → base f.node ≡ Some β → t.parent f.node ≡ Some p → more f.node + coarse t f.node p β ≤ f.began

-- the link e has a visited end, and was followed from there; of the links of v only those below k were
pub record Seen (g : Network) (final : ℕ → Option ℕ) (v k e : ℕ) : Type 0 where
  pub w : ℕ
  pub u : ℕ
  pub d : ℕ
  pub over : Hop g e w u
  pub visited : final w ≡ Some d
  pub followed : w ≡ v → e < k

-- the put that following the link e made: the first time it was followed
pub record Pays (g : Network) (final : ℕ → Option ℕ) (v k : ℕ) (paid : ℕ → ℕ) : Type 0 where
  pub one : (e : ℕ) → paid e ≤ 1
  pub seen : (e : ℕ) → (paid e ≡ 0) ⊎ Seen g final v k e

pub record Credit (g : Network) (t : Tree) (s : Core) (fs : List Frame) (v k : ℕ) : Type 0 where
  pub first : ℕ → ℕ
  pub more : ℕ → ℕ
  pub paid : ℕ → ℕ
  pub puts : s.shelf.puts ≤ total first t.nodes + total more t.nodes + total paid (length g.rows)
  pub firsts : Firsts t s.base first
  pub mores : Mores t s.base s.count fs more
  pub pays : Pays g s.final v k paid

-- no child of an unexpanded node has paid
pub unpaid : {g : Network} {t : Tree} (fits : Fits g t) {s : Core} {fs : List Frame} {v k : ℕ} (c : Credit g t s fs v k) (x : ℕ) → s.base x ≡ None
    → (y : ℕ) → Among y (t.children x) → (c.first y ≡ 0) × (y < t.nodes)
unpaid {g} {t} fits {s} c x shut y a = let h = fits.child x y a in (c.firsts.none y (λ p e. ap s.base (same_some e h) ∙ shut), node_of fits h)

-- where each of n has paid at most once and those of cs have not, cs fit into what is left of n
fill : (n : ℕ) (first : ℕ → ℕ) (cs : List ℕ) → Distinct cs → ((y : ℕ) → first y ≤ 1) → ((y : ℕ) → Among y cs → (first y ≡ 0) × (y < n))
    → total first n + length cs ≤ n
fill n first [] d o a = omega (arith, total_mono first (λ x. 1) n (λ x h. o x), total_ones n)
fill n first (c ∷ cs) d o a =
    let f = change first c 1 in
    let r = fill n f.to cs d.1 (λ y. elim (ℕ_discrete y c) [ yes q ↦ omega (arith, ap f.to q, f.set.at) | no q ↦ omega (arith, f.set.off y q, o y) ])
    (λ y q. (f.set.off y (λ w. d.0 (subst (λ u. Among u cs) w q)) ∙ (a y (inr q)).0, (a y (inr q)).1)) in
    omega (arith, r, total_changed first f.to c n (a c (inl refl)).1 f.set.off, f.set.at, (a c (inl refl)).0)

-- what the credit comes to, where no counter has passed its node's last bucket by more than one
abbrev pub Roomy : Tree → Core → Type 0
Roomy t s = (x β : ℕ) → s.base x ≡ Some β → s.count x ≤ β + t.buckets x

module _ {g : Network} {t : Tree} (sized : Sized t) {s : Core} {fs : List Frame} {v k : ℕ} (room : Roomy t s) (c : Credit g t s fs v k) where
  more_few : total c.more t.nodes ≤ total t.buckets t.nodes
  more_few = total_mono c.more t.buckets t.nodes (λ x h. few x (s.base x) (t.parent x) refl refl)
    where
      few : (x : ℕ) (b p : Option ℕ) → s.base x ≡ b → t.parent x ≡ p → c.more x ≤ t.buckets x
      few x None p e h = omega (arith, c.mores.shut x e)
      few x (Some β) None e h = omega (arith, c.mores.root x h)
      few x (Some β) (Some p) e h =
          omega (
            arith,
            c.mores.most x β p e h,
            bucket_add (s.count x) β (t.buckets x) (2 ^ (t.level p - t.level x))
                (pow_pos (t.level p - t.level x)) (room x β e),
          )

  paid_few : total c.paid (length g.rows) ≤ in_service g
  paid_few = total_mono c.paid (λ e. cond (get_or g.service e false) 1 0) (length g.rows) (λ e h. in_use e (c.pays.seen e))
    where
      in_use : (e : ℕ) → (c.paid e ≡ 0) ⊎ Seen g s.final v k e → c.paid e ≤ cond (get_or g.service e false) 1 0
      in_use e (inl z) = omega (arith, z)
      in_use e (inr z) = subst (λ b. c.paid e ≤ cond b 1 0) (sym z.over.up) (c.pays.one e)

  pub credit_most : s.shelf.puts ≤ most_moves g t
  credit_most =
      omega (
        arith,
        c.puts,
        total_mono c.first (λ x. 1) t.nodes (λ x h. c.firsts.one x),
        total_ones t.nodes,
        sized.nodes,
        sized.buckets,
        more_few,
        paid_few,
      )

  -- there is room for the first puts of the children of an unexpanded node too
  pub children_room : Fits g t → (x : ℕ) → s.base x ≡ None → s.shelf.puts + length (t.children x) ≤ most_moves g t
  children_room fits x shut =
      omega (
        arith,
        c.puts,
        fill t.nodes c.first (t.children x) (fits.once x) c.firsts.one (unpaid fits c x shut),
        sized.nodes,
        sized.buckets,
        more_few,
        paid_few,
      )

pays_on : {g : Network} {final : ℕ → Option ℕ} {paid : ℕ → ℕ} {v k : ℕ} → Pays g final v k paid → Pays g final v (suc k) paid
pays_on c =
    record {
      one = c.one;
      seen = λ e. elim (c.seen e) [
        | inl z ↦ inl z
        | inr z ↦ inr (record {
          w = z.w;
          u = z.u;
          d = z.d;
          over = z.over;
          visited = z.visited;
          followed = λ q. omega (arith, z.followed q);
        })
      ];
    }

-- following a link
module _ {g : Network} {t : Tree} {fs : List Frame} {v d : ℕ} where
  credit_link : {k : ℕ} {s s₁ : Core} → s.final v ≡ Some d → Credit g t s fs v k → Link g t v d k s s₁ → Credit g t s₁ fs v (suc k)
  credit_link seen c (skip h) =
      record { first = c.first; more = c.more; paid = c.paid; puts = c.puts; firsts = c.firsts; mores = c.mores; pays = pays_on c.pays }
  credit_link seen c (keep u y j n e l) =
      record { first = c.first; more = c.more; paid = c.paid; puts = c.puts; firsts = c.firsts; mores = c.mores; pays = pays_on c.pays }
  credit_link {k} {s} seen c (lower u x b so_far' h' j n nearer low front bel move) = go move
    where
      free : h'.puts ≡ s.shelf.puts → Credit g t (lowered s so_far' h') fs v (suc k)
      free e =
          record {
            first = c.first;
            more = c.more;
            paid = c.paid;
            puts = omega (arith, c.puts, e);
            firsts = c.firsts;
            mores = c.mores;
            pays = pays_on c.pays;
          }

      -- the link has not paid yet
      unpaid : (c.paid k ≡ 0) ⊎ Seen g s.final v k k → c.paid k ≡ 0
      unpaid (inl z) = z
      unpaid (inr z) =
          elim (either_end j z.over) [ inl r ↦ absurd (omega (arith, z.followed r)) | inr r ↦ absurd (some_none (ap s.final (sym r) ∙ z.visited) n) ]

      p : Change c.paid k 1
      p = change c.paid k 1

      go : Moved t x b s.shelf h' → Credit g t (lowered s so_far' h') fs v (suc k)
      go (there a e) = free (ap (λ (z : Shelf). z.puts) e)
      go (moved a set (nothing q e)) = free e
      go (moved a set (one b' q gr e)) =
          record {
            first = c.first;
            more = c.more;
            paid = p.to;
            firsts = c.firsts;
            mores = c.mores;
            puts = omega (arith, c.puts, e, total_changed c.paid p.to k (length g.rows) j.listed p.set.off, p.set.at, unpaid (c.pays.seen k));
            pays = record {
              one = λ e. elim (ℕ_discrete e k) [ yes z ↦ omega (arith, ap p.to z, p.set.at) | no z ↦ omega (arith, p.set.off e z, c.pays.one e) ];
              seen = λ e. elim (ℕ_discrete e k) [
                | yes z ↦ inr (rw z (record { w = v; u = u; d = d; over = j; visited = seen; followed = λ q. omega arith }))
                | no z ↦ elim ((pays_on c.pays).seen e) [ inl q ↦ inl (p.set.off e z ∙ q) | inr q ↦ inr q ]
              ];
            };
          }

  pub credit_links : {s : Core} {k : ℕ} {s₁ : Core} → s.final v ≡ Some d → Credit g t s fs v 0 → Links g t v d s k s₁ → Credit g t s₁ fs v k
  credit_links seen c begun = c
  credit_links seen c (next r l) = credit_link (ap (λ (f : ℕ → Option ℕ). f v) (links_alike r).final ∙ seen) (credit_links seen c r) l

-- between steps no station's links are being followed
module _ {g : Network} {t : Tree} {fs : List Frame} where
  pub credit_any : {s : Core} {v v' : ℕ} → Credit g t s fs v (length g.rows) → Credit g t s fs v' (length g.rows)
  credit_any c =
      record {
        first = c.first;
        more = c.more;
        paid = c.paid;
        puts = c.puts;
        firsts = c.firsts;
        mores = c.mores;
        pays = record {
          one = c.pays.one;
          seen = λ e. elim (c.pays.seen e) [
            | inl z ↦ inl z
            | inr z ↦ inr
                (record { w = z.w; u = z.u; d = z.d; over = z.over; visited = z.visited; followed = λ q. z.over.listed })
          ];
        };
      }

  -- a station is visited
  pub credit_call : {s : Core} {v d m : ℕ} {final' so_far' : ℕ → Option ℕ} {h' : Shelf} → s.final v ≡ None → h'.puts ≡ s.shelf.puts
      → Credit g t s fs m (length g.rows) → Call s v d final' so_far'
      → Credit g t (called s final' so_far' h') fs v 0
  credit_call {s} {v} {final' = final'} n e c call =
      record {
        first = c.first;
        more = c.more;
        paid = c.paid;
        puts = omega (arith, c.puts, e);
        firsts = c.firsts;
        mores = c.mores;
        pays = record { one = c.pays.one; seen = λ e. elim (c.pays.seen e) [ inl z ↦ inl z | inr z ↦ inr (still e z) ] };
      }
    where
      still : {m : ℕ} (e : ℕ) → Seen g s.final m (length g.rows) e → Seen g final' v 0 e
      still e z =
          let q : z.w ≢ v = λ q. some_none (ap s.final (sym q) ∙ z.visited) n in
          record { w = z.w; u = z.u; d = z.d; over = z.over; visited = call.final.off z.w q ∙ z.visited; followed = λ r. absurd (q r) }
