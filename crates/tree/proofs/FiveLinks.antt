-- The joining links of the five stations' network, and the spreads of its nodes.
use Rattle.std.proofs.Common.{◌≡◌, ℕ, zero, suc, ◌<◌, ◌≤◌, true, false, [], ◌∷◌, get_or, sym, refl, ◌∙◌, subst, inl, inr, arith}
use Rattle.network.specs.Levels.{IsLevel}
use Rattle.network.specs.Lists.{Among}
use Rattle.network.specs.Network.{here, step, none, and, Small, Under, row}
use Rattle.network.proofs.Levels.{joined_self, under_grows}
use Rattle.tree.specs.Components.{Holds, Inside, Spread}
use Rattle.tree.specs.Five.{five, five_tree}
use Rattle.tree.specs.Joining.{Joining}
use Rattle.tree.proofs.Ranks.{Past, before_past}
use Rattle.tree.proofs.FiveGroups.{links, two, three, clash, along, p1, p2, p4, proper, under_zero, under_two, under_four, hop0, hop1, hop3, u01, u02, u03, all_rep}

pub level0 : IsLevel 3 2
level0 = record { least = omega arith; reaches = omega arith; under = omega arith }

pub level1 : IsLevel 4 3
level1 = record { least = omega arith; reaches = omega arith; under = omega arith }

pub level2 : IsLevel 9 4
level2 = record { least = omega arith; reaches = omega arith; under = omega arith }

pub level3 : IsLevel 16 5
level3 = record { least = omega arith; reaches = omega arith; under = omega arith }

pub level4 : IsLevel 20 5
level4 = record { least = omega arith; reaches = omega arith; under = omega arith }

-- the links looked at before link 0, 1 and 3 leave the labels as they are, and the ends of the link apart
pub joining0 : Joining five 0
joining0 =
    record {
      listed = omega arith;
      up = refl;
      alone = λ h.
          let z = along (λ u. u) (λ k l up b. elim (before_past {g = five} {i = 1} {k = 0} level0 k b) [ inl s ↦ none_small k l s | inr s ↦ absurd (omega (arith, s.1)) ]) h in
          omega arith;
    }
  where
    none_small : (k : ℕ) → k < 6 → Small five 1 k → (row five k).from ≡ (row five k).to
    none_small =
        links (λ k. Small five 1 k → (row five k).from ≡ (row five k).to) (λ s. absurd (omega (arith, s.under, p1))) (λ s. absurd (omega (arith, s.under, p1))) (λ s. absurd (omega (arith, s.under, p1)))
        (λ s. absurd (omega (arith, s.under, p1))) (λ s. absurd (omega (arith, s.under, p1))) (λ s. absurd (omega (arith, s.under, p1)))

pub joining1 : Joining five 1
joining1 =
    record {
      listed = omega arith;
      up = refl;
      alone = λ h. let z = along two (λ k l up b. looked k l (before_past {g = five} {i = 2} {k = 1} level1 k b)) h in omega arith;
    }
  where
    looked : (k : ℕ) → k < 6 → Past five 2 1 k → two (row five k).from ≡ two (row five k).to
    looked =
        links (λ k. Past five 2 1 k → two (row five k).from ≡ two (row five k).to) (λ p. refl) (elim [ inl s ↦ absurd (omega (arith, s.under, p2)) | inr s ↦ absurd (omega (arith, s.1)) ])
        (elim [ inl s ↦ absurd (omega (arith, s.under, p2)) | inr s ↦ absurd (omega (arith, s.1)) ]) (elim [ inl s ↦ absurd (omega (arith, s.under, p2)) | inr s ↦ absurd (omega (arith, s.1)) ])
        (elim [ inl s ↦ absurd (omega (arith, s.under, p2)) | inr s ↦ absurd (omega (arith, s.1)) ]) (elim [ inl s ↦ absurd (omega (arith, s.under, p2)) | inr s ↦ absurd (omega (arith, s.1)) ])

pub joining3 : Joining five 3
joining3 =
    record {
      listed = omega arith;
      up = refl;
      alone = λ h. let z = along three (λ k l up b. looked k l up (before_past {g = five} {i = 4} {k = 3} level3 k b)) h in omega arith;
    }
  where
    looked : (k : ℕ) → k < 6 → get_or five.service k false ≡ true → Past five 4 3 k → three (row five k).from ≡ three (row five k).to
    looked =
        links (λ k. get_or five.service k false ≡ true → Past five 4 3 k → three (row five k).from ≡ three (row five k).to) (λ e p. refl) (λ e p. refl) (λ e p. refl)
        (λ e. elim [ inl s ↦ absurd (omega (arith, s.under, p4)) | inr s ↦ absurd (omega (arith, s.1)) ]) (λ e. elim [ inl s ↦ absurd (omega (arith, s.under, p4)) | inr s ↦ absurd (omega (arith, s.1)) ]) (λ e p. clash e)

pub not_joining2 : ¬ Joining five 2
not_joining2 l =
    l.alone
    (record {
      links = 0 ∷ 1 ∷ [];
      route = step hop0 (step hop1 here);
      each =
          and (record { level = 2; other = 4; first = level0; second = level2; order = inl (omega arith) })
          (and (record { level = 3; other = 4; first = level1; second = level2; order = inl (omega arith) }) none);
    })

pub not_joining4 : ¬ Joining five 4
not_joining4 l =
    l.alone
    (record {
      links = 1 ∷ 3 ∷ [];
      route = step hop1 (step hop3 here);
      each =
          and (record { level = 3; other = 5; first = level1; second = level4; order = inl (omega arith) })
          (and (record { level = 5; other = 5; first = level3; second = level4; order = inr (refl, omega arith) }) none);
    })

-- a joining link is 0, 1 or 3
pub joining_only : (P : ℕ → Type 0) → P 0 → P 1 → P 3 → (k : ℕ) → Joining five k → P k
joining_only P a b c k l =
    links (λ k. Joining five k → P k) (λ l. a) (λ l. b) (λ l. absurd (not_joining2 l)) (λ l. c) (λ l. absurd (not_joining4 l)) (λ l. clash l.up) k l.listed l

pub spread_none : (x : ℕ) → five_tree.level x ≡ 0 → Spread five five_tree x 0
spread_none x e =
    record {
      links = [];
      once = tt;
      each = λ k. (λ a. elim a [ ], λ i. none_inside k i.joining (one i.from) (one i.to));
      total = refl;
    }
  where
    one : {u : ℕ} → Holds five five_tree x u → five_tree.lowest x ≡ u
    one {u} h = under_zero (subst (λ i. Under five i (five_tree.lowest x) u) e h)

    none_inside : (k : ℕ) → Joining five k → five_tree.lowest x ≡ (row five k).from → five_tree.lowest x ≡ (row five k).to → Among k []
    none_inside k l p q = absurd ((proper k l.listed).1 (sym p ∙ q))

pub spread5 : Spread five five_tree 5 3
spread5 =
    record {
      links = 0 ∷ [];
      once = ((λ a. elim a [ ]), tt);
      each = λ k. (elim [ inl e ↦ rw e (record { joining = joining0; from = joined_self 0; to = u01 }) | inr n ↦ elim n [ ] ], λ i. inside k i);
      total = refl;
    }
  where
    inside : (k : ℕ) → Inside five five_tree 5 k → Among k (0 ∷ [])
    inside k i =
        joining_only (λ k. Under five 2 0 (row five k).to → Among k (0 ∷ [])) (λ h. inl refl) (λ h. absurd (let z = under_two h in omega arith)) (λ h. absurd (let z = under_two h in omega arith)) k i.joining i.to

pub spread6 : Spread five five_tree 6 7
spread6 =
    record {
      links = 0 ∷ 1 ∷ [];
      once = (elim [ inl e ↦ omega arith | inr n ↦ elim n [ ] ], ((λ a. elim a [ ]), tt));
      each = λ k. (
        elim [
          | inl e ↦ rw e (record { joining = joining0; from = joined_self 0; to = u1 })
          | inr b ↦ elim b [ inl e ↦ rw e (record { joining = joining1; from = u1; to = u02 }) | inr n ↦ elim n [ ] ]
        ],
        λ i. inside k i,
      );
      total = refl;
    }
  where
    u1 : Under five 3 0 1
    u1 = let l : 2 ≤ 3 = omega arith in under_grows l u01

    inside : (k : ℕ) → Inside five five_tree 6 k → Among k (0 ∷ 1 ∷ [])
    inside k i =
        joining_only (λ k. Under five 3 0 (row five k).to → Among k (0 ∷ 1 ∷ [])) (λ h. inl refl) (λ h. inr (inl refl))
        (λ h. absurd (let l : 3 ≤ 4 = omega arith in let z = under_four (under_grows l h) in omega arith)) k i.joining i.to

pub spread7 : Spread five five_tree 7 23
spread7 =
    record {
      links = 0 ∷ 1 ∷ 3 ∷ [];
      once = (
        elim [ inl e ↦ omega arith | inr b ↦ elim b [ inl e ↦ omega arith | inr n ↦ elim n [ ] ] ],
        (elim [ inl e ↦ omega arith | inr n ↦ elim n [ ] ], ((λ a. elim a [ ]), tt)),
      );
      each = λ k. (
        elim [
          | inl e ↦ rw e (record { joining = joining0; from = joined_self 0; to = all_rep 1 })
          | inr b ↦ elim b [
            | inl e ↦ rw e (record { joining = joining1; from = all_rep 1; to = all_rep 2 })
            | inr d ↦ elim d [ inl e ↦ rw e (record { joining = joining3; from = all_rep 2; to = u03 }) | inr n ↦ elim n [ ] ]
          ]
        ],
        λ i. joining_only (λ k. Among k (0 ∷ 1 ∷ 3 ∷ [])) (inl refl) (inr (inl refl)) (inr (inr (inl refl))) k i.joining,
      );
      total = refl;
    }

pub spread : (x : ℕ) → x < 8 → Spread five five_tree x (five_tree.spread x)
spread zero h = spread_none 0 refl
spread (suc zero) h = spread_none 1 refl
spread (suc (suc zero)) h = spread_none 2 refl
spread (suc (suc (suc zero))) h = spread_none 3 refl
spread (suc (suc (suc (suc zero)))) h = spread_none 4 refl
spread (suc (suc (suc (suc (suc zero))))) h = spread5
spread (suc (suc (suc (suc (suc (suc zero)))))) h = spread6
spread (suc (suc (suc (suc (suc (suc (suc zero))))))) h = spread7
spread (suc (suc (suc (suc (suc (suc (suc (suc x)))))))) h = absurd (omega arith)
