-- Lists of numbers without repetition: no longer, and with no greater sum, than a list that has them all.
use Rattle.std.proofs.Common.{◌≡◌, ℕ, zero, suc, ◌+◌, ◌<◌, ◌≤◌, ◌≢◌, ◌⊎◌, List, [], ◌∷◌, ◌++◌, length, sym, refl, ◌∙◌, subst, inl, inr, arith}
use native.Mathlib.Decide.{ℕ_discrete}
use Rattle.network.specs.Lists.{Among, Inside, Distinct}
use Rattle.network.specs.Network.{Network, Each, none, and, delay, sum}

pub among : (k : ℕ) (ks : List ℕ) → Dec (Among k ks)
among k [] = no (λ m. m)
among k (l ∷ ks) = go (ℕ_discrete k l) (among k ks)
  where
    go : Dec (k ≡ l) → Dec (Among k ks) → Dec (Among k (l ∷ ks))
    go (yes e) b = yes (inl e)
    go (no n) (yes a) = yes (inr a)
    go (no n) (no m) = no (elim [ inl e ↦ n e | inr a ↦ m a ])

pub among_join : (k : ℕ) (ks ls : List ℕ) → Among k (ks ++ ls) → Among k ks ⊎ Among k ls
among_join k [] ls a = inr a
among_join k (j ∷ ks) ls (inl e) = inl (inl e)
among_join k (j ∷ ks) ls (inr a) = elim (among_join k ks ls a) [ inl b ↦ inl (inr b) | inr b ↦ inr b ]

-- what is true of each is true of one of them
pub each_among : {such : ℕ → Type 0} {ks : List ℕ} → Each such ks → (k : ℕ) → Among k ks → such k
each_among none k m = elim m [ ]
each_among {such} (and {k = l} {ks = ks} s p) k m = go m (each_among p k)
  where
    go : (k ≡ l) ⊎ Among k ks → (Among k ks → such k) → such k
    go (inl e) later = rw e s
    go (inr a) later = later a

-- a list without one of its elements, at one place
pub record Without (g : Network) (k : ℕ) (ls : List ℕ) : Type 0 where
  pub rest : List ℕ
  pub total : sum g ls ≡ delay g k + sum g rest
  pub size : length ls ≡ suc (length rest)
  pub others : (j : ℕ) → j ≢ k → Among j ls → Among j rest

pub without : (g : Network) (k : ℕ) (ls : List ℕ) → Among k ls → Without g k ls
without g k [] m = elim m [ ]
without g k (l ∷ ls) (inl e) =
    record { rest = ls; total = rw e refl; size = refl; others = λ j n. elim [ inl d ↦ absurd (n (d ∙ sym e)) | inr a ↦ a ] }
without g k (l ∷ ls) (inr m) =
    let w = without g k ls m in
    record {
      rest = l ∷ w.rest;
      total = omega (arith, w.total);
      size = omega (arith, w.size);
      others = λ j n. elim [ inl d ↦ inl d | inr a ↦ inr (w.others j n a) ];
    }

-- none of ks twice, and all of them in ls: ks has no greater sum, and is no longer
pub once : (g : Network) (ks ls : List ℕ) → Distinct ks → Inside ks ls → (sum g ks ≤ sum g ls) × (length ks ≤ length ls)
once g [] ls d i = (omega arith, omega arith)
once g (k ∷ ks) ls d i =
    let w = without g k ls (i k (inl refl)) in
    let inside : Inside ks w.rest = λ j a. w.others j (λ e. d.0 (subst (λ n. Among n ks) e a)) (i j (inr a)) in
    let o = once g ks w.rest d.1 inside in
    (omega (arith, w.total, o.0), omega (arith, w.size, o.1))

-- the numbers below n
pub below : ℕ → List ℕ
below zero = []
below (suc n) = n ∷ below n

pub below_length : (n : ℕ) → length (below n) ≡ n
unfolding below
below_length zero = refl
below_length (suc n) = omega (arith, below_length n)

pub among_below : (k n : ℕ) → k < n → Among k (below n)
unfolding below
among_below k zero h = absurd (omega arith)
among_below k (suc n) h = go (ℕ_discrete k n) (among_below k n)
  where
    go : Dec (k ≡ n) → (k < n → Among k (below n)) → (k ≡ n) ⊎ Among k (below n)
    go (yes e) later = inl e
    go (no m) later = inr (later (omega arith))

-- the pigeonhole principle: different numbers below n are n or fewer
pub pigeonhole : (g : Network) (n : ℕ) (ks : List ℕ) → Distinct ks → ((k : ℕ) → Among k ks → k < n) → length ks ≤ n
pigeonhole g n ks d f = omega (arith, (once g ks (below n) d (λ k a. among_below k n (f k a))).1, below_length n)
