-- Runs over tests, one behind another.
use Rattle.std.proofs.Common.{◌≡◌, ◌+◌, List, [], ◌∷◌, ◌++◌, length, Option, Result, Ok, Err, subst}
use Rattle.std.proofs.lemmas.List.{append_assoc}
use Rattle.sg_model.specs.Games.{Game}
use Rattle.sg_frac.specs.Fractions.{Fraction}
use Rattle.sg_tree.specs.declared.report.Report.{Report}
use Rattle.sg_bounds.specs.Checking.{AllPass, Stop, bound_stops, caps_stops, stops_of, ticket_stops, value_line}
use Rattle.sg_check.specs.declared.refusal.Refusal.{Refusal}
use Rattle.sg_check.specs.Answering.{AnswersTests, BoundAnswers, TellsFirst}
use Rattle.sg_check.specs.Parts.{closing_stops, opening_stops, total_stops, worth_stops}
use Rattle.sg_check.proofs.Firsts.{AllPass-append, FirstFails-left, FirstFails-right}

pub answers-then : {X : Type 0} (g : Game) (r : Report) (xs ys : List Stop) (result : Result X Refusal) → AllPass g r xs → AnswersTests g r ys result → AnswersTests g r (xs ++ ys) result
answers-then g r xs ys (Ok done) h k = AllPass-append g r xs ys h k
answers-then g r xs ys (Err f) h k = (k.0, FirstFails-right g r xs ys k.0 f.reason h k.1, k.2)

pub refuses-behind : (g : Game) (r : Report) (xs ys : List Stop) (f : Refusal) → AllPass g r xs → TellsFirst g r ys f → TellsFirst g r (xs ++ ys) f
refuses-behind g r xs ys f h k = (k.0, FirstFails-right g r xs ys k.0 f.reason h k.1, k.2)

pub refuses-then : (g : Game) (r : Report) (xs ys : List Stop) (f : Refusal) → TellsFirst g r xs f → TellsFirst g r (xs ++ ys) f
refuses-then g r xs ys f k = (k.0, FirstFails-left g r xs ys k.0 f.reason k.1, k.2)

pass-right : (g : Game) (r : Report) (xs ys : List Stop) → AllPass g r (xs ++ ys) → AllPass g r ys
pass-right g r [] ys h = h
pass-right g r (x ∷ xs) ys h = pass-right g r xs ys h.1

-- no cap is missing where the tests of the caps pass
pub none_missing : (g : Game) (r : Report) → AllPass g r (bound_stops r) → length r.caps + 1 ≡ length g.types
none_missing g r h = (pass-right g r (caps_stops 2 (value_line r + 1) r.caps) _ h).0

-- all tests of two runs pass, and what is told of the second one
pub bound-then : (g : Game) (r : Report) (xs ys : List Stop) (bounds : List Fraction) (result : Result (Option Fraction) Refusal) → AllPass g r xs → BoundAnswers g r ys bounds result → BoundAnswers g r (xs ++ ys) bounds result
bound-then g r xs ys bounds (Ok b) h k = (AllPass-append g r xs ys h k.0, k.1)
bound-then g r xs ys bounds (Err f) h k = refuses-behind g r xs ys f h k

-- the tests of the tickets and those behind are all tests
whole : (g : Game) (r : Report) → opening_stops r ++ closing_stops g r ≡ stops_of g r
whole g r = append_assoc (ticket_stops 3 r.tickets.tickets) (total_stops ++ worth_stops r) (closing_stops g r)

pub opened : {X : Type 0} (g : Game) (r : Report) (result : Result X Refusal) → AnswersTests g r (opening_stops r ++ closing_stops g r) result → AnswersTests g r (stops_of g r) result
opened g r result h = subst (λ (ss : List Stop). AnswersTests g r ss result) (whole g r) h

pub refuses-opened : (g : Game) (r : Report) (f : Refusal) → TellsFirst g r (opening_stops r ++ closing_stops g r) f → TellsFirst g r (stops_of g r) f
refuses-opened g r f h = subst (λ (ss : List Stop). TellsFirst g r ss f) (whole g r) h
