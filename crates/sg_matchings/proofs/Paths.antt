-- Steps of the search for an augmenting path.
use Rattle.std.proofs.Common.{◌≡◌, ℕ, zero, suc, ◌+◌, ◌<◌, List, [], ◌∷◌, Bool, true, false, length, get_or, set, inl, inr, refl, arith, ap, sym, ◌∙◌, subst, get_or-set_same, get_or-set_other}
use Rattle.std.specs.Prelude.{int_lt, ℤ, pos, ◌≤ℤ◌}
use Rattle.std.proofs.Math.ListN.{length-set}
use Rattle.std.proofs.lemmas.Int.{ints}
use Rattle.std.proofs.lemmas.Bool.{cases_eq, cases_Bool, true≢false}
use Rattle.sg_matchings.specs.Tables.{cell}
use Rattle.sg_matchings.specs.Matchings.{is_seen, unseen, IsOnPositive, Keeps, Gains, IsSearched, AreClosed, IsBlocked}
use Rattle.sg_matchings.proofs.Counts.{hit, occurrences-set}

pub gains-free : (n column k : ℕ) (matched : List ℕ) → k < length matched → get_or matched k 0 ≡ n → Gains n column matched (set matched k column)
gains-free n column k matched lt e j = omega (arith, ints, occurrences-set matched k column j lt, ap (λ (y : ℕ). hit y j) e)

pub gains-along : (n column other k : ℕ) (matched next : List ℕ) → k < length next → get_or next k 0 ≡ other → Gains n other matched next → Gains n column matched (set next k column)
gains-along n column other k matched next lt e gains j = omega (arith, ints, occurrences-set next k column j lt, ap (λ (y : ℕ). hit y j) e, gains j)

pub unseen-set : (seen : List Bool) (k : ℕ) → k < length seen → is_seen seen k ≡ false → unseen (set seen k true) + 1 ≡ unseen seen
unseen-set [] k lt e = absurd (omega (arith, lt))
unseen-set (true ∷ seen) zero lt e = absurd (true≢false e)
unseen-set (false ∷ seen) zero lt e = omega arith
unseen-set (true ∷ seen) (suc k) lt e = unseen-set seen k (omega (arith, lt)) e
unseen-set (false ∷ seen) (suc k) lt e = omega (arith, unseen-set seen k (omega (arith, lt)) e)

pub keeps-mark : (seen : List Bool) (matched : List ℕ) (k : ℕ) → k < length seen → is_seen seen k ≡ false → Keeps seen matched (set seen k true) matched
keeps-mark seen matched k lt e = record {
  long = length-set seen k true;
  stays_seen = λ i s. elim (cases_eq i k) [
    | inl q ↦ rw q (get_or-set_same seen k true false lt)
    | inr ne ↦ get_or-set_other seen k i true false ne ∙ s
  ];
  fewer = omega (arith, unseen-set seen k lt e);
  stays_matched = λ i s. refl;
}

pub keeps-trans : (s s' s'' : List Bool) (m m' m'' : List ℕ) → Keeps s m s' m' → Keeps s' m' s'' m'' → Keeps s m s'' m''
keeps-trans s s' s'' m m' m'' a b = record {
  long = b.long ∙ a.long;
  stays_seen = λ i h. b.stays_seen i (a.stays_seen i h);
  fewer = omega (arith, a.fewer, b.fewer);
  stays_matched = λ i h. b.stays_matched i (a.stays_seen i h) ∙ a.stays_matched i h;
}

pub keeps-match : (s s' : List Bool) (m m' : List ℕ) (k v : ℕ) → is_seen s k ≡ false → Keeps s m s' m' → Keeps s m s' (set m' k v)
keeps-match s s' m m' k v e a = record {
  long = a.long;
  stays_seen = a.stays_seen;
  fewer = a.fewer;
  stays_matched = λ i h. get_or-set_other m' k i v 0 (λ q. true≢false (sym h ∙ (ap (is_seen s) q ∙ e))) ∙ a.stays_matched i h;
}

-- what is not reached now was not reached before
pub unseen-before : (s s' : List Bool) (m m' : List ℕ) (k : ℕ) → Keeps s m s' m' → is_seen s' k ≡ false → is_seen s k ≡ false
unseen-before s s' m m' k keeps e = elim (cases_Bool (is_seen s k)) [
  | inl t ↦ absurd (true≢false (sym (keeps.stays_seen k t) ∙ e))
  | inr f ↦ f
]

pub searched-more : (rows : List (List ℤ)) (column k : ℕ) (seen : List Bool) → IsSearched rows column seen k → (pos 1 ≤ℤ cell rows k column → is_seen seen k ≡ true) → IsSearched rows column seen (k + 1)
searched-more rows column k seen before last i lt p = elim (cases_eq i k) [
  | inl e ↦ rw e (last (subst (λ (x : ℕ). pos 1 ≤ℤ cell rows x column) e p))
  | inr ne ↦ before i (omega (arith, lt, ne)) p
]

pub searched-keeps : (rows : List (List ℤ)) (column k : ℕ) (s s' : List Bool) (m m' : List ℕ) → Keeps s m s' m' → IsSearched rows column s k → IsSearched rows column s' k
searched-keeps rows column k s s' m m' keeps before i lt p = keeps.stays_seen i (before i lt p)

-- one more row, from whose column there is no path
pub closed-more : (rows : List (List ℤ)) (m m' : List ℕ) (s s' s'' : List Bool) (k : ℕ) → is_seen s' k ≡ false → get_or m k 0 < length rows
    → Keeps s' m s'' m' → IsBlocked rows (get_or m k 0) m (set s' k true) m' s'' → AreClosed rows m s s' → AreClosed rows m s s''
closed-more rows m m' s s' s'' k e lt keeps blocked closed i there old = elim (cases_Bool (is_seen s' i)) [
  | inl t ↦ (let r = closed i t old in (r.0, searched-keeps rows (get_or m i 0) (length rows) s' s'' m m' keeps r.1))
  | inr f ↦ elim (cases_eq i k) [
    | inl q ↦ rw q (lt, blocked.own)
    | inr ne ↦ blocked.others i there (get_or-set_other s' k i true false ne ∙ f)
  ]
]

-- a row that is not free has a column
pub cell_taken : (rows : List (List ℤ)) (m : List ℕ) (k : ℕ) → k < length rows → IsOnPositive rows m → (get_or m k 0 ≡ length rows → ⊥) → get_or m k 0 < length rows
cell_taken rows m k lt on ne = elim (on.each k lt) [ inl e ↦ absurd (ne e) | inr r ↦ r.0 ]

pub not_positive : (x : ℤ) → int_lt (pos 0) x ≡ false → pos 1 ≤ℤ x → ⊥
not_positive x e h = grind (arith, ints)

-- no row before one had an augmenting path
pub record AreTried (rows : List (List ℤ)) (column : ℕ) (s0 : List Bool) (m0 : List ℕ) (s : List Bool) (m : List ℕ) (k : ℕ) : Type 0 where
  pub same : m ≡ m0
  pub keeps : Keeps s0 m0 s m
  pub own : IsSearched rows column s k
  pub others : AreClosed rows m0 s0 s

pub tried-other : (rows : List (List ℤ)) (column : ℕ) (s0 s s2 : List Bool) (m0 m m2 : List ℕ) (k : ℕ) → s2 ≡ s → m2 ≡ m → (pos 1 ≤ℤ cell rows k column → is_seen s k ≡ true)
    → AreTried rows column s0 m0 s m k → AreTried rows column s0 m0 s2 m2 (k + 1)
tried-other rows column s0 s s2 m0 m m2 k e f passed tried = rw (e, f) (record {
  same = tried.same;
  keeps = tried.keeps;
  own = searched-more rows column k s tried.own passed;
  others = tried.others;
})

pub tried-blocked : (rows : List (List ℤ)) (column : ℕ) (s0 s s1 s2 : List Bool) (m0 m m1 m2 : List ℕ) (k : ℕ) → s2 ≡ s1 → m2 ≡ m1
    → k < length s → is_seen s k ≡ false → get_or m k 0 < length rows → Keeps (set s k true) m s1 m1 → IsBlocked rows (get_or m k 0) m (set s k true) m1 s1
    → AreTried rows column s0 m0 s m k → AreTried rows column s0 m0 s2 m2 (k + 1)
tried-blocked rows column s0 s s1 s2 m0 m m1 m2 k e f lt unseen_k taken keeps blocked tried =
    let mark = keeps-mark s m k lt unseen_k in
    let all : Keeps s m s1 m1 = keeps-trans s (set s k true) s1 m m m1 mark keeps in
    let now : is_seen s1 k ≡ true = keeps.stays_seen k (get_or-set_same s k true false lt) in
    rw (e, f) (record {
      same = blocked.same ∙ tried.same;
      keeps = keeps-trans s0 s s1 m0 m m1 tried.keeps all;
      own = searched-more rows column k s1 (searched-keeps rows column k s s1 m m1 all tried.own) (λ p. now);
      others = subst (λ (x : List ℕ). AreClosed rows x s0 s1) tried.same
          (closed-more rows m m1 s0 s s1 k unseen_k taken all blocked (subst (λ (x : List ℕ). AreClosed rows x s0 s) (sym tried.same) tried.others));
    })
