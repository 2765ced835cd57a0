-- What the entries say of the links agrees with what the book holds, all along a history; so each entry is right.
use Rattle.std.proofs.Common.{◌≡◌, ℕ, ◌<◌, Bool, true, false, cond, eqb, List, [], ◌∷◌, length, get_or, set, Ok, Err, sym, refl, ap, ◌∙◌, arith, length-set}
use Rattle.std.proofs.lemmas.Grind.{common_steps}
use Rattle.std.proofs.lemmas.Bool.Decides.{nat_tests}
use Rattle.std.proofs.lemmas.List.{get_or-replicate, length-replicate}
use Rattle.std.proofs.lemmas.Bool.{false_from_ne_true, true≢false}
use Rattle.book.specs.declared.permit.Permit.{Permit}
use Rattle.book.specs.declared.refusal.Refusal.TheVariants.{Stations, TooManyRows, BadRow, NoSuchLink, NotInService, MapStands, NoMap, NothingSettled, NoMemory}
use Rattle.book.specs.declared.refusal.PermitRefusal.{PermitRefusal}
use Rattle.book.specs.declared.refusal.PermitRefusal.TheVariants.{OtherBook, NotOut, StillGood}
use Rattle.book.specs.Matter.{Matter, links, serviced, stricken}
use Rattle.book.specs.Calls.{Opens, Out, Good, NotGood}
use Rattle.book.specs.History.{Entry, Opening, Linked, opened, then, Does, Right, RightPermit, AllRight, OutThen, GoodThen, in_service, is_struck, withdraw, give_back, strike, annul}

pub record Agrees (o : Opening) (es : List Entry) (b : Matter) : Type 0 where
  pub number : b.number ≡ o.number
  pub rows : b.network.rows ≡ o.rows
  pub serviced : length b.network.service ≡ length o.rows
  pub struck : length b.struck ≡ length o.rows
  pub in_as : (k : ℕ) → k < length o.rows → get_or b.network.service k false ≡ in_service es k
  pub struck_as : (k : ℕ) → k < length o.rows → get_or b.struck k false ≡ is_struck es k

-- a list read after a write
read_set : (l : List Bool) (i k : ℕ) (v : Bool) → i < length l → get_or (set l i v) k false ≡ cond (eqb k i) v (get_or l k false)
read_set l i k v h = grind (arith, common_steps, nat_tests)

module _ {o : Opening} {es : List Entry} {b : Matter} (a : Agrees o es b) where
  many : links b ≡ length o.rows
  many = ap length a.rows

  out_then : (k : ℕ) → Out b k → OutThen o es k
  out_then k x =
      let l : k < length o.rows = omega (arith, many, x.listed) in
      record {
        listed = l;
        out = sym (a.in_as k l) ∙ false_from_ne_true (get_or b.network.service k false) x.out;
        back = sym (a.struck_as k l) ∙ false_from_ne_true (get_or b.struck k false) x.back;
      }

  then_out : (k : ℕ) → OutThen o es k → Out b k
  then_out k x =
      record {
        listed = omega (arith, many, x.listed);
        out = λ t. true≢false (sym t ∙ (a.in_as k x.listed ∙ x.out));
        back = λ t. true≢false (sym t ∙ (a.struck_as k x.listed ∙ x.back));
      }

  good_then : (p : Permit) → Good b p → GoodThen o es p
  good_then p g = record { same = g.same ∙ a.number; out = out_then p.link g.out }

  then_good : (p : Permit) → GoodThen o es p → Good b p
  then_good p g = record { same = g.same ∙ sym a.number; out = then_out p.link g.out }

  right_refusal : (p : Permit) (why : PermitRefusal) → NotGood b p why → RightPermit o es p (Err why)
  right_refusal p (OtherBook q) h = (h.0, λ e. h.1 (e ∙ sym a.number))
  right_refusal p (NotOut q) h = (h.0, h.1 ∙ a.number, λ x. h.2 (then_out p.link x))
  right_refusal p (StillGood q) h = h

  -- what a call does is what the entries before it ask for
  right : (e : Entry) (b' : Matter) → Does b e b' → Right o es e
  right (withdraw link (Ok p)) b' d =
      let l : link < length o.rows = omega (arith, many, d.0) in
      (l, sym (a.in_as link l) ∙ d.1, d.2 ∙ a.number, d.3)
  right (withdraw link (Err NoSuchLink)) b' d = omega (arith, many, d.0)
  right (withdraw link (Err NotInService)) b' d =
      let l : link < length o.rows = omega (arith, many, d.0.0) in
      (l, sym (a.in_as link l) ∙ false_from_ne_true (get_or b.network.service link false) d.0.1)
  right (withdraw link (Err Stations)) b' d = d.0
  right (withdraw link (Err TooManyRows)) b' d = d.0
  right (withdraw link (Err (BadRow why))) b' d = d.0
  right (withdraw link (Err MapStands)) b' d = d.0
  right (withdraw link (Err NoMap)) b' d = d.0
  right (withdraw link (Err NothingSettled)) b' d = d.0
  right (withdraw link (Err NoMemory)) b' d = d.0
  right (give_back p (Ok done)) b' d = good_then p d.0
  right (give_back p (Err why)) b' d = right_refusal p why d.0
  right (strike p (Ok done)) b' d = good_then p d.0
  right (strike p (Err why)) b' d = right_refusal p why d.0
  right (annul p (Ok done)) b' d = λ g. d.0 (then_good p g)
  right (annul p (Err (StillGood q))) b' d = (d.0.0, good_then p d.0.1)
  right (annul p (Err (OtherBook q))) b' d = d.0
  right (annul p (Err (NotOut q))) b' d = d.0

  -- the book with the link k in service or not agrees with entries that say so
  agrees_serviced : (k : ℕ) (v : Bool) (es' : List Entry) → k < length o.rows
      → ((i : ℕ) → in_service es' i ≡ cond (eqb i k) v (in_service es i)) → ((i : ℕ) → is_struck es' i ≡ is_struck es i)
      → Agrees o es' (serviced b k v)
  agrees_serviced k v es' l s t =
      record {
        number = a.number;
        rows = a.rows;
        serviced = length-set b.network.service k v ∙ a.serviced;
        struck = a.struck;
        in_as = λ i h.
            read_set b.network.service k i v (omega (arith, a.serviced))
            ∙ (ap (λ (x : Bool). cond (eqb i k) v x) (a.in_as i h) ∙ sym (s i));
        struck_as = λ i h. a.struck_as i h ∙ sym (t i);
      }

  agrees_stricken : (k : ℕ) (es' : List Entry) → k < length o.rows
      → ((i : ℕ) → in_service es' i ≡ in_service es i) → ((i : ℕ) → is_struck es' i ≡ cond (eqb i k) true (is_struck es i))
      → Agrees o es' (stricken b k)
  agrees_stricken k es' l s t =
      record {
        number = a.number;
        rows = a.rows;
        serviced = a.serviced;
        struck = length-set b.struck k true ∙ a.struck;
        in_as = λ i h. a.in_as i h ∙ sym (s i);
        struck_as = λ i h.
            read_set b.struck k i true (omega (arith, a.struck))
            ∙ (ap (λ (x : Bool). cond (eqb i k) true x) (a.struck_as i h) ∙ sym (t i));
      }

  -- entries that change nothing
  agrees_same : (es' : List Entry) → ((i : ℕ) → in_service es' i ≡ in_service es i) → ((i : ℕ) → is_struck es' i ≡ is_struck es i) → Agrees o es' b
  agrees_same es' s t =
      record {
        number = a.number;
        rows = a.rows;
        serviced = a.serviced;
        struck = a.struck;
        in_as = λ i h. a.in_as i h ∙ sym (s i);
        struck_as = λ i h. a.struck_as i h ∙ sym (t i);
      }

  next : (e : Entry) (b' : Matter) → Does b e b' → Agrees o (e ∷ es) b'
  next (withdraw link (Ok p)) b' d = rw d.5 (agrees_serviced link false _ (omega (arith, many, d.0)) (λ i. refl) (λ i. refl))
  next (withdraw link (Err why)) b' d = rw d.1 (agrees_same _ (λ i. refl) (λ i. refl))
  next (give_back p (Ok done)) b' d = rw d.1 (agrees_serviced p.link true _ (omega (arith, many, d.0.out.listed)) (λ i. refl) (λ i. refl))
  next (give_back p (Err why)) b' d = rw d.1 (agrees_same _ (λ i. refl) (λ i. refl))
  next (strike p (Ok done)) b' d = rw d.1 (agrees_stricken p.link _ (omega (arith, many, d.0.out.listed)) (λ i. refl) (λ i. refl))
  next (strike p (Err why)) b' d = rw d.1 (agrees_same _ (λ i. refl) (λ i. refl))
  next (annul p answer) b' d = rw d.1 (agrees_same _ (λ i. refl) (λ i. refl))

begun : (o : Opening) (b b' : Matter) → Opens b o.number o.stations o.rows (Ok tt) b' → Agrees o [] b'
begun o b b' d =
    rw d.3 (record {
      number = refl;
      rows = refl;
      serviced = length-replicate (length o.rows) true;
      struck = length-replicate (length o.rows) false;
      in_as = λ k h. get_or-replicate (length o.rows) k true false h;
      struck_as = λ k h. get_or-replicate (length o.rows) k false false h;
    })

agrees : {o : Opening} {es : List Entry} {b : Matter} → Linked o es b → Agrees o es b
agrees {o = o} (opened b b' d) = begun o b b' d
agrees (then e b' l d) = next (agrees l) e b' d

pub every_history : {o : Opening} {es : List Entry} {b : Matter} → Linked o es b → AllRight o es
every_history (opened b b' d) = tt
every_history (then e b' l d) = (right (agrees l) e b' d, every_history l)
