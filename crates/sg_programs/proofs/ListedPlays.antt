-- Listing the plays keeps what every method does.
use Rattle.std.proofs.Common.{◌≡◌, ℕ, zero, suc, ◌+◌, ◌*◌, ◌≤◌, Bool, true, false, List, [], ◌∷◌, ◌++◌, length, sym, ◌∙◌, ap, subst, refl, arith, Option, Some, None}
use Rattle.std.specs.Prelude.{ℤ, nat_le, if◌then◌else◌}
use Rattle.std.proofs.lemmas.List.{length-map}
use Rattle.std.proofs.Math.Nat.{mul-le-mul_left}
use Rattle.sg_num.specs.declared.step.Wide.{Wide}
use Rattle.sg_num.specs.Operations.{first_wide}
use Rattle.sg_rows.proofs.Fitting.{first_wide-append_fits, first_wide-append_stops}
use Rattle.sg_model.specs.Games.{Game, is_matrix, resource_count, resource_schedules}
use Rattle.sg_model.specs.PlayLists.{choices_from, legal_plays, play_count}
use Rattle.sg_model.proofs.LegalPlays.{legal_plays_are_counted}
use Rattle.sg_lp.specs.declared.column.Column.{Column}
use Rattle.sg_lp.specs.Programs.{Program}
use Rattle.sg_lp.specs.Pricing.{Answer, clean, found, spent, wide}
use Rattle.sg_lp.specs.Listing.{enters, listing_answer, listing_looks, price_steps, tested}
use Rattle.sg_lp.proofs.Listing.{says_listing}
use Rattle.sg_simplex.proofs.Shown.{alone-fits, alone-stops}
use Rattle.sg_programs.specs.Enough.{coverage_columns, enough_looks, partial_count}
use Rattle.sg_programs.specs.NodeTests.{listing_steps}
use Rattle.sg_programs.specs.NodeLaws.{ListingIsMethod}
use Rattle.sg_programs.specs.Plays.{column_of, plays_program}

module _ (p : Program) (y : List ℤ) (rho : ℤ) (budget : ℕ) where
  abbrev steps_of : List Column → List Wide
  steps_of cs = listing_steps p y rho cs

  abbrev told : ℕ → List Column → Answer
  told n cs = listing_answer p y rho budget n cs

  -- what is told of the columns from here on: a value that doesn't fit with the first one formed, and a column or none only where all fit
  abbrev Tells : List Column → Answer → Type 0
  Tells cs (found c) = first_wide (steps_of cs) ≡ None
  Tells cs (clean n) = first_wide (steps_of cs) ≡ None
  Tells cs spent = Unit {0}
  Tells cs (wide name w) = (name ≡ 2) × (first_wide (steps_of cs) ≡ Some w)

  -- behind a column that fits and stays
  behind : (c : Column) (cs : List Column) (a : Answer) → first_wide (price_steps p y rho c) ≡ None → enters p y rho c ≡ false → Tells cs a → Tells (c ∷ cs) a
  behind c cs a fit stays h = go a h
    where
      same : first_wide (steps_of (c ∷ cs)) ≡ first_wide (steps_of cs)
      same = ap (λ (b : Bool). first_wide (price_steps p y rho c ++ (if b then [] else steps_of cs))) stays ∙ first_wide-append_fits (price_steps p y rho c) (steps_of cs) fit

      go : (a : Answer) → Tells cs a → Tells (c ∷ cs) a
      go (found d) k = same ∙ k
      go (clean n) k = same ∙ k
      go spent k = tt
      go (wide name w) k = (k.0, same ∙ k.1)

  tells : (n : ℕ) (cs : List Column) → Tells cs (told n cs)
  tells n [] = refl
  tells n (c ∷ cs) = go (nat_le budget n) (tells (n + 1) cs)
    where
      test : (o : Option Wide) → first_wide (price_steps p y rho c) ≡ o → (t : Bool) → enters p y rho c ≡ t → (a : Answer) → Tells cs a → Tells (c ∷ cs) (tested o t c a)
      test (Some w) h t e a k = (refl, first_wide-append_stops (price_steps p y rho c) (if enters p y rho c then [] else steps_of cs) w h)
      test None h true e a k = ap (λ (b : Bool). first_wide (price_steps p y rho c ++ (if b then [] else steps_of cs))) e ∙ first_wide-append_fits (price_steps p y rho c) [] h
      test None h false e a k = behind c cs a h e k

      go : (t : Bool) → Tells cs (told (n + 1) cs) → Tells (c ∷ cs) (if t then spent else tested (first_wide (price_steps p y rho c)) (enters p y rho c) c (told (n + 1) cs))
      go true k = tt
      go false k = test (first_wide (price_steps p y rho c)) refl (enters p y rho c) refl (told (n + 1) cs) k

looks-few : (p : Program) (y : List ℤ) (rho : ℤ) (cs : List Column) → listing_looks p y rho cs ≤ length cs
looks-few p y rho [] = omega arith
looks-few p y rho (c ∷ cs) = go (enters p y rho c) (looks-few p y rho cs)
  where
    go : (t : Bool) → listing_looks p y rho cs ≤ length cs → (if t then 1 else 1 + listing_looks p y rho cs) ≤ suc (length cs)
    go true h = omega arith
    go false h = omega (arith, h)

choices-partial : (g : Game) (r n : ℕ) → choices_from g r n ≤ partial_count g r n
choices-partial g r zero = omega arith
choices-partial g r (suc n) =
    let m : ℕ = length (resource_schedules g r) in
    let rest = choices-partial g (r + 1) n in
    let more = mul-le-mul_left (m + 1) rest in
    let swap : 1 + m ≡ m + 1 = omega arith in
    let e = ap (λ (k : ℕ). k * choices_from g (r + 1) n) swap in
    omega (arith, more, e)

plays-few : (g : Game) → play_count g ≤ enough_looks g
plays-few g = go (is_matrix g)
  where
    go : (b : Bool) → (if b then length g.goals else choices_from g 1 (resource_count g)) ≤ (if b then length g.goals else partial_count g 1 (resource_count g) + coverage_columns g)
    go true = omega arith
    go false = omega (arith, choices-partial g 1 (resource_count g))

pub listing_is_method : ListingIsMethod
listing_is_method g h unscaled fix is_fix pivots looks =
    let p = plays_program g fix in
    record {
      means = λ y rho budget long. says_listing p y rho budget long;
      wide = λ t budget name w e.
          let k = subst (Tells p t.y t.rho budget p.columns) e (tells p t.y t.rho budget 0 p.columns) in
          alone-stops 2 (listing_steps p t.y t.rho p.columns) w k.1 ∙ ap (λ (n : ℕ). Some (record { name = n; step = w })) (sym k.0);
      found = λ t budget c e. alone-fits 2 (listing_steps p t.y t.rho p.columns) (subst (Tells p t.y t.rho budget p.columns) e (tells p t.y t.rho budget 0 p.columns));
      clean = λ t budget n e. alone-fits 2 (listing_steps p t.y t.rho p.columns) (subst (Tells p t.y t.rho budget p.columns) e (tells p t.y t.rho budget 0 p.columns));
      few = λ y rho.
          let all : length p.columns ≡ play_count g = length-map (legal_plays g) column_of ∙ legal_plays_are_counted g in
          omega (arith, looks-few p y rho p.columns, all, plays-few g);
    }
