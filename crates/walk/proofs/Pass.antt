-- Routes to an unvisited station: what the walk knows of their length.
use Rattle.std.proofs.Common.{◌≡◌, ℕ, ◌+◌, ◌≤◌, ◌⊎◌, List, [], ◌∷◌, Some, None, Option, refl, inl, inr, arith}
use Rattle.network.specs.Network.{Network, Route, here, step, Hop, sum, delay}
use Rattle.tree.specs.Tree.{Tree, Below, self, up, In, Fits}
use Rattle.network.proofs.Routes.{turn, turn_sum}
use Rattle.tree.proofs.Nodes.{in_parent, tell}
use Rattle.tree.proofs.Routes.{meet}
use Rattle.tree.proofs.Words.{some_none}
use Rattle.walk.specs.declared.frame.Frame.{Frame}
use Rattle.walk.specs.State.{Core}
use Rattle.walk.specs.Steps.{Open}
use Rattle.walk.proofs.Invariant.{Expanded, line, Facts, Looked}

-- where a route leaves the visited stations
record Leaves (g : Network) (final : ℕ → Option ℕ) (a b : ℕ) (ks : List ℕ) : Type 0 where
  pub before : List ℕ
  pub w : ℕ
  pub d : ℕ
  pub link : ℕ
  pub u : ℕ
  pub after : List ℕ
  pub to : Route g a before w
  pub seen : final w ≡ Some d
  pub over : Hop g link w u
  pub unseen : final u ≡ None
  pub on : Route g u after b
  pub split : sum g ks ≡ sum g before + delay g link + sum g after

leaves : {g : Network} {a b d : ℕ} {ks : List ℕ} (final : ℕ → Option ℕ) → final a ≡ Some d → final b ≡ None → Route g a ks b → Leaves g final a b ks
leaves final h n here = absurd (some_none h n)
leaves {g} {a} {b} {d} final h n (step {b = m} {k = k} {ks = ks} j p) = go (final m) refl (λ e h. leaves final h n p)
  where
    go : (o : Option ℕ) → final m ≡ o → ((e : ℕ) → final m ≡ Some e → Leaves g final m b ks) → Leaves g final a b (k ∷ ks)
    go (Some e) q later =
        let l = later e q in
        record {
          before = k ∷ l.before;
          w = l.w;
          d = l.d;
          link = l.link;
          u = l.u;
          after = l.after;
          to = step j l.to;
          seen = l.seen;
          over = l.over;
          unseen = l.unseen;
          on = l.on;
          split = omega (arith, l.split);
        }
    go None q later = record { before = []; w = a; d = d; link = k; u = m; after = ks; to = here; seen = h; over = j; unseen = q; on = p; split = omega arith }

-- the first unvisited station of a route from the source: the keeper knows it, no later than the route comes there
record First (g : Network) (so_far : ℕ → Option ℕ) (v : ℕ) (ks : List ℕ) : Type 0 where
  pub u : ℕ
  pub y : ℕ
  pub known : so_far u ≡ Some y
  pub rest : List ℕ
  pub on : Route g u rest v
  pub sums : y + sum g rest ≤ sum g ks

-- a route to a comes by a known station of a ..
pub record By (g : Network) (t : Tree) (so_far : ℕ → Option ℕ) (a : ℕ) (ks : List ℕ) : Type 0 where
  pub w : ℕ
  pub inside : In t w a
  pub y : ℕ
  pub known : so_far w ≡ Some y
  pub near : y ≤ sum g ks

-- .. or reaches past the limit of its parent
pub record Past (g : Network) (t : Tree) (lim : ℕ → ℕ) (a : ℕ) (ks : List ℕ) : Type 0 where
  pub p : ℕ
  pub parent : t.parent a ≡ Some p
  pub long : lim p ≤ sum g ks

module _ {g : Network} {t : Tree} (fits : Fits g t) {src : ℕ} {s : Core} {fs : List Frame} {lim : ℕ → ℕ} (facts : Facts g t src s fs lim) where
  first : Looked g s.final s.so_far → {v : ℕ} {ks : List ℕ} → s.final v ≡ None → Route g src ks v → First g s.so_far v ks
  first looked {v} {ks} h p = elim facts.delays.start [ inl a ↦ late a | inr e ↦ record { u = src; y = 0; known = e; rest = ks; on = p; sums = omega arith } ]
    where
      late : s.final src ≡ Some 0 → First g s.so_far v ks
      late a =
          let l = leaves s.final a h p in
          let k = looked l.w l.d l.u l.link l.seen l.unseen l.over in
          record {
            u = l.u;
            y = k.y;
            known = k.known;
            rest = l.after;
            on = l.on;
            sums = omega (arith, l.split, k.near, (facts.delays.exact l.w l.d l.seen).least l.before l.to);
          }

  -- limits rise with the tree
  pub limits_up : {x y : ℕ} (β : ℕ) → s.base x ≡ Some β → Open t s.final x → Below t x y → lim x ≤ lim y
  limits_up β e o self = omega arith
  limits_up β e o (up {x = x} {p = m} h p) =
      let γ = facts.grown.upward x β m e h in
      omega (
        arith,
        facts.limits.nested x β m e o h,
        limits_up γ.start γ.based
            (record { u = o.u; inside = in_parent h o.inside; unvisited = o.unvisited }) p,
      )

  pub expanded_up : {x y : ℕ} → Expanded s.base x → Below t x y → Expanded s.base y
  expanded_up e self = e
  expanded_up e (up {x = x} {p = m} h p) = expanded_up (facts.grown.upward x e.start m e.based h) p

  -- what is known of a station of x is not before the line of x
  pub known_far : {x u y : ℕ} → Expanded s.base x → Below t u x → s.so_far u ≡ Some y → line t s.count x ≤ y
  known_far {x} {u} {y} e i k =
      let f = facts.delays.found u y k in
      omega (
        arith,
        facts.limits.far x e.start u f.attained.links e.based (record { station = f.station; below = i }) f.unvisited
            f.attained.route,
        f.attained.total,
      )

  pub pass : Looked g s.final s.so_far → {a u : ℕ} {ks : List ℕ} → ((p : ℕ) → t.parent a ≡ Some p → Expanded s.base p)
      → In t u a → s.final u ≡ None → Route g src ks u → By g t s.so_far a ks ⊎ Past g t lim a ks
  pass looked {a} {u} {ks} ups i h p =
      let f = first looked h p in
      go f (tell fits f.u a)
    where
      go : (f : First g s.so_far u ks) → Dec (Below t f.u a) → By g t s.so_far a ks ⊎ Past g t lim a ks
      go f (yes b) =
          inl (record {
            w = f.u;
            inside = record { station = (facts.delays.found f.u f.y f.known).station; below = b };
            y = f.y;
            known = f.known;
            near = omega (arith, f.sums);
          })
      go f (no n) =
          let m = meet fits i.below n (turn f.on) in
          let e = ups m.p m.parent in
          let e' = expanded_up e m.up in
          let o : Open t s.final m.p = record { u = u; inside = in_parent m.parent i; unvisited = h } in
          inr (record {
            p = m.p;
            parent = m.parent;
            long = omega (
              arith,
              limits_up e.start e.based o m.up,
              facts.limits.cap m.y e'.start e'.based,
              known_far e' m.holds f.known,
              m.long,
              turn_sum g f.rest,
              f.sums,
            );
          })
