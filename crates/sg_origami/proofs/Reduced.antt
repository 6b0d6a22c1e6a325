-- A level in lower terms is the same level.
use Rattle.std.proofs.Common.{◌≡◌, ◌≢◌, slice_index_or, ℕ, Bool, true, false, cond, List, [], ◌∷◌, length, ℤ, pos, ◌-ℤ◌, ◌*ℤ◌, ◌≤ℤ◌, sym, ◌∙◌, ap, subst, refl, arith}
use Rattle.std.specs.List.{filter}
use Rattle.std.specs.Prelude.{int_le}
use Rattle.std.proofs.lemmas.Int.{ints, by_lt_z}
use Rattle.sg_model.specs.Sums.{total, numbers}
use Rattle.sg_model.specs.Games.{Game, payoff, resource_count}
use Rattle.sg_model.specs.declared.level.Level.{Level}
use Rattle.sg_model.specs.declared.level.Level.TheVariants.{Resources, Target}
use Rattle.sg_model.specs.Origami.{share, at_level, IsFullyCovered, IsLevelFor, IsWater, SpendsAll}
use Rattle.sg_model.proofs.Ints.{v, n, less, times, same_by, mul-le, mul-lt, cancel, cancel-le}
use Rattle.sg_model.proofs.Sums.{total-scaled, total-same}
use Rattle.sg_origami.specs.Fillings.{IsReasonOf}
use Rattle.sg_origami.specs.Rates.{IsReachable, multiple}
use Rattle.sg_frac.proofs.Lowered.{Lowers}

filter-same : {X : Type 0} (p q : X → Bool) → ((x : X) → p x ≡ q x) → (xs : List X) → filter p xs ≡ filter q xs
filter-same p q h [] = refl
filter-same {X = X} p q h (x ∷ xs) = rw (h x) (ap (λ (ys : List X). cond (q x) (x ∷ ys) ys) (filter-same p q h xs))

same_test : (a num den c : ℤ) → pos 1 ≤ℤ c → int_le (num *ℤ c) (a *ℤ (den *ℤ c)) ≡ int_le num (a *ℤ den)
same_test a num den c h =
    let e : a *ℤ (den *ℤ c) ≡ (a *ℤ den) *ℤ c = same_by (times (v a) (times (v den) (v c))) (times (times (v a) (v den)) (v c)) (omega arith) in
    by_lt_z (a *ℤ den) num
    (λ lt. let f : int_le num (a *ℤ den) ≡ false = sym (omega (arith, ints, lt)) in let g : int_le (num *ℤ c) (a *ℤ (den *ℤ c)) ≡ false = sym (omega (arith, ints, e, mul-lt (a *ℤ den) num c lt h)) in g ∙ sym f)
    (λ le. let f : int_le num (a *ℤ den) ≡ true = sym (omega (arith, ints, le)) in let g : int_le (num *ℤ c) (a *ℤ (den *ℤ c)) ≡ true = sym (omega (arith, ints, e, mul-le num (a *ℤ den) c le (omega (arith, ints, h)))) in g ∙ sym f)

pub at_level-reduced : (g : Game) (num den c : ℤ) → pos 1 ≤ℤ c → at_level g (num *ℤ c) (den *ℤ c) ≡ at_level g num den
at_level-reduced g num den c h =
    filter-same (λ t. int_le (num *ℤ c) ((payoff g 1 t).au *ℤ (den *ℤ c))) (λ t. int_le num ((payoff g 1 t).au *ℤ den)) (λ t. same_test (payoff g 1 t).au num den c h) (numbers (length g.goals))

same_share : (m a num den c : ℤ) → m *ℤ (a *ℤ (den *ℤ c) -ℤ (num *ℤ c)) ≡ c *ℤ (m *ℤ (a *ℤ den -ℤ num))
same_share m a num den c = same_by (times (v m) (less (times (v a) (times (v den) (v c))) (times (v num) (v c)))) (times (v c) (times (v m) (less (times (v a) (v den)) (v num)))) (omega arith)

-- what the targets of a level need, in higher terms
total_share-reduced : (g : Game) (num den c : ℤ) → pos 1 ≤ℤ c → total (share g (num *ℤ c) (den *ℤ c)) (at_level g (num *ℤ c) (den *ℤ c)) ≡ total (share g num den) (at_level g num den) *ℤ c
total_share-reduced g num den c h =
    let ys : List ℕ = at_level g num den in
    let x : ℤ = total (share g num den) ys in
    ap (total (share g (num *ℤ c) (den *ℤ c))) (at_level-reduced g num den c h)
    ∙ (total-same (share g (num *ℤ c) (den *ℤ c)) (λ t. c *ℤ share g num den t) ys (λ i d lt. same_share (multiple g (slice_index_or ys i d)) (payoff g 1 (slice_index_or ys i d)).au num den c)
    ∙ (total-scaled (share g num den) c ys ∙ same_by (times (v c) (v x)) (times (v x) (v c)) (omega arith)))

whole-reduced : (patrols : ℕ) (den scale c : ℤ) → (pos patrols *ℤ (den *ℤ c)) *ℤ scale ≡ ((pos patrols *ℤ den) *ℤ scale) *ℤ c
whole-reduced patrols den scale c = same_by (times (times (n patrols) (times (v den) (v c))) (v scale)) (times (times (times (n patrols) (v den)) (v scale)) (v c)) (omega arith)

spends-reduced : (g : Game) (num den c : ℤ) → pos 1 ≤ℤ c → SpendsAll g (num *ℤ c) (den *ℤ c) → SpendsAll g num den
spends-reduced g num den c h s = record {
  some = subst (λ (zs : List ℕ). zs ≢ []) (at_level-reduced g num den c h) s.some;
  sum = cancel (total (share g num den) (at_level g num den)) ((pos (resource_count g) *ℤ den) *ℤ g.scale) c (sym (total_share-reduced g num den c h) ∙ (s.sum ∙ whole-reduced (resource_count g) den g.scale c)) h;
}

times_in : (a den c : ℤ) → a *ℤ (den *ℤ c) ≡ (a *ℤ den) *ℤ c
times_in a den c = same_by (times (v a) (times (v den) (v c))) (times (times (v a) (v den)) (v c)) (omega arith)

floor-reduced : (g : Game) (num den c : ℤ) → pos 1 ≤ℤ c → (j : ℕ) → IsFullyCovered g (num *ℤ c) (den *ℤ c) j → IsFullyCovered g num den j
floor-reduced g num den c h j f = record {
  from_one = f.from_one;
  in_range = f.in_range;
  pays = cancel ((payoff g 1 j).ac *ℤ den) num c (sym (times_in (payoff g 1 j).ac den c) ∙ f.pays) h;
}

floor-raised : (g : Game) (num den c : ℤ) (j : ℕ) → IsFullyCovered g num den j → IsFullyCovered g (num *ℤ c) (den *ℤ c) j
floor-raised g num den c j f = record {
  from_one = f.from_one;
  in_range = f.in_range;
  pays = times_in (payoff g 1 j).ac den c ∙ ap (λ (z : ℤ). z *ℤ c) f.pays;
}

level-reduced : (g : Game) (num den c : ℤ) → pos 1 ≤ℤ c → (why : Level) → IsLevelFor g (num *ℤ c) (den *ℤ c) why → IsLevelFor g num den why
level-reduced g num den c h Resources s = spends-reduced g num den c h s
level-reduced g num den c h (Target j) f = floor-reduced g num den c h j f

reason-reduced : (g : Game) (num den c : ℤ) → pos 1 ≤ℤ c → (why : Level) → IsReasonOf g (num *ℤ c) (den *ℤ c) why → IsReasonOf g num den why
reason-reduced g num den c h Resources none = λ j f. none j (floor-raised g num den c j f)
reason-reduced g num den c h (Target j) r = record { floor = floor-reduced g num den c h j r.floor; first = λ i lt f. r.first i lt (floor-raised g num den c i f) }

reachable-reduced : (g : Game) (num den c : ℤ) → pos 1 ≤ℤ c → pos 1 ≤ℤ den → IsReachable g (num *ℤ c) (den *ℤ c) → IsReachable g num den
reachable-reduced g num den c h low r = record {
  positive = low;
  over = λ j from_one in_range. cancel-le ((payoff g 1 j).ac *ℤ den) num c (subst (λ (z : ℤ). z ≤ℤ (num *ℤ c)) (times_in (payoff g 1 j).ac den c) (r.over j from_one in_range)) h;
  enough = cancel-le (total (share g num den) (at_level g num den)) ((pos (resource_count g) *ℤ den) *ℤ g.scale) c
      (subst (λ (z : ℤ). z ≤ℤ (((pos (resource_count g) *ℤ den) *ℤ g.scale) *ℤ c)) (total_share-reduced g num den c h)
      (subst (λ (z : ℤ). total (share g (num *ℤ c) (den *ℤ c)) (at_level g (num *ℤ c) (den *ℤ c)) ≤ℤ z) (whole-reduced (resource_count g) den g.scale c) r.enough)) h;
}

-- all that is known of a level
pub record IsFound (g : Game) (num den : ℤ) (why : Level) : Type 0 where
  pub water : IsWater g num den why
  pub reason : IsReasonOf g num den why
  pub reachable : IsReachable g num den

found-reduced : (g : Game) (num den c : ℤ) (why : Level) → pos 1 ≤ℤ c → pos 1 ≤ℤ den → IsFound g (num *ℤ c) (den *ℤ c) why → IsFound g num den why
found-reduced g num den c why h low f = record {
  water = record { positive = low; level = level-reduced g num den c h why f.water.level };
  reason = reason-reduced g num den c h why f.reason;
  reachable = reachable-reduced g num den c h low f.reachable;
}

-- is known of it in lowest terms
pub found-lowest : (g : Game) (num den low_num low_den : ℤ) (why : Level) → Lowers num den low_num low_den → pos 1 ≤ℤ low_den → IsFound g num den why → IsFound g low_num low_den why
found-lowest g num den low_num low_den why l low f =
    found-reduced g low_num low_den l.by why l.positive low
    (subst (λ (z : ℤ). IsFound g z (low_den *ℤ l.by) why) l.num_is (subst (λ (z : ℤ). IsFound g num z why) l.den_is f))
