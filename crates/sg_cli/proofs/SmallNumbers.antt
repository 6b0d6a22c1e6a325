-- The numbers of a right report lie in the ranges of a report's text.
use Rattle.std.proofs.Common.{◌≡◌, ℕ, ◌+◌, ◌≤◌, ◌<◌, ◌^◌, Bool, true, false, MatchBool, List, [], ◌∷◌, length, ℤ, pos, negsuc, ◌≤ℤ◌, Option, Some, None, inl, inr, if◌then◌else◌, sym, ◌∙◌, ap, subst, refl, arith}
use Rattle.std.specs.List.{All, AllByRecursion}
use Rattle.std.proofs.lemmas.Int.{ints}
use Rattle.std.proofs.lemmas.Bool.{lt-ltb, ltb-true}
use Rattle.std.proofs.lemmas.List.Elements.{All-head, All-tail, All-weaker, All-from_get_or, recursion_from_All}
use Rattle.sg_frac.specs.Fractions.{Fraction, IsReduced}
use Rattle.sg_model.specs.declared.level.Level.{Level}
use Rattle.sg_model.specs.declared.level.Level.TheVariants.{Resources, Target}
use Rattle.sg_model.specs.declared.ticket.Ticket.{Ticket}
use Rattle.sg_model.specs.declared.kind.Kind.TheVariants.{Security}
use Rattle.sg_model.specs.Sums.{numbers}
use Rattle.sg_model.specs.Games.{Game, resource_count, resource_schedules}
use Rattle.sg_model.specs.Plays.{IsLegal, IsLegalJoint}
use Rattle.sg_model.specs.Commitments.{weight_total}
use Rattle.sg_model.specs.Limits.{ArePatrols, IsDefended, IsGame, is_scaled}
use Rattle.sg_model.proofs.Promises.{game_cases, origami}
use Rattle.sg_model.proofs.Forms.{no_matrix}
use Rattle.sg_model.proofs.Numbers.{length-numbers_from}
use Rattle.sg_origami.specs.Fillings.{IsReasonOf}
use Rattle.sg_tree.specs.declared.fact.Fact.TheVariants.{Water}
use Rattle.sg_tree.specs.declared.tree.Tree.TheVariants.{Closed}
use Rattle.sg_tree.specs.declared.report.Report.{Report}
use Rattle.sg_num.specs.Exact.{Fits}
use Rattle.sg_cert.specs.Ranges.{IsCap, IsEnding, IsFact, IsFraction, IsLayer, IsLevel, IsRangedNode, IsReport, IsTicket}
use Rattle.sg_cert.proofs.Trees.{out_closed}
use Rattle.sg_options.specs.declared.budget.Budget.{Budget}
use Rattle.sg_options.specs.declared.order.Order.{Order}
use Rattle.sg_tree.specs.declared.worked.Worked.{Worked}
use Rattle.sg_solve.specs.Answers.{IsAnswer, IsLevelAnswer, IsSearchAnswer}
use Rattle.sg_solve.specs.Solutions.{IsOptimalReport}
use Rattle.sg_cli.specs.Widths.{BothPartsFit, HasParts, HasPartsLayer, IsSized}

-- a number from 1 to one that fits
fits_below : (a b : ℤ) → pos 1 ≤ℤ a → a ≤ℤ b → Fits b → Fits a
fits_below (pos a) (pos b) h k f = let lt : b < 2 ^ 127 = ltb-true b (2 ^ 127) f in lt-ltb a (2 ^ 127) (omega (arith, ints, lt, k))
fits_below (pos a) (negsuc b) h k f = absurd (omega (arith, ints, k))
fits_below (negsuc a) b h k f = absurd (omega (arith, ints, h))

total_nonneg : (k : List Ticket) → All (λ (x : Ticket). pos 1 ≤ℤ x.weight) k → pos 0 ≤ℤ weight_total k
total_nonneg [] h = omega (arith, ints)
total_nonneg (x ∷ xs) h = omega (arith, ints, All-head (λ (x : Ticket). pos 1 ≤ℤ x.weight) x xs h, total_nonneg xs (All-tail (λ (x : Ticket). pos 1 ≤ℤ x.weight) x xs h))

-- a play of at most 200 choices, none above 65,535
record IsShort (code : List ℕ) : Type 0 where
  count : length code ≤ 200
  choices : AllByRecursion (λ c. c ≤ 65535) code

tickets_in : (k : List Ticket) (d : ℤ) → Fits d → All (λ (x : Ticket). IsShort x.play.code) k → All (λ (x : Ticket). pos 1 ≤ℤ x.weight) k → weight_total k ≤ℤ d
    → AllByRecursion IsTicket k
tickets_in [] d f short h le = tt
tickets_in (x ∷ xs) d f short h le =
    let here = All-head (λ (x : Ticket). pos 1 ≤ℤ x.weight) x xs h in
    let rest = All-tail (λ (x : Ticket). pos 1 ≤ℤ x.weight) x xs h in
    let s = All-head (λ (x : Ticket). IsShort x.play.code) x xs short in (
      record { weight = fits_below x.weight d here (omega (arith, ints, le, total_nonneg xs rest)) f; count = s.count; choices = s.choices },
      tickets_in xs d f (All-tail (λ (x : Ticket). IsShort x.play.code) x xs short) rest (omega (arith, ints, le, here)),
    )

-- how many patrols and targets a game with a scale has
record HasFew (g : Game) : Type 0 where
  security : g.kind ≡ Security
  patrols : ℕ
  identical : g.patrols ≡ Some patrols
  few : patrols ≤ 200
  goals : length g.goals ≤ 10000

few_of : (g : Game) → IsGame g → is_scaled g ≡ true → HasFew g
few_of g is sc =
    let o = origami g is sc in
    elim (game_cases g is) [
      | inl s ↦ (
          let d : ArePatrols g (resource_count g) = subst (IsDefended g) o.identical s.game.defended in
          record {
            security = s.kind;
            patrols = (resource_count g);
            identical = o.identical;
            few = subst (λ (b : Bool). (resource_count g) ≤ (if b then 200 else 32)) sc d.few;
            goals = subst (λ (b : Bool). length g.goals ≤ (if b then 10000 else 200)) sc s.game.target_count.at_most;
          })
      | inr m ↦ absurd (let e : ◌≡◌ {A = Option ℕ} (Some (resource_count g)) None = sym o.identical ∙ m.game.no_patrols in cc)
    ]

short_play : (g : Game) → HasFew g → (code : List ℕ) → IsLegal g code → IsShort code
short_play g h code is =
    let joint : IsLegalJoint g code = rw (no_matrix g h.security) at is in
    let count : resource_count g ≡ h.patrols = rw h.identical refl in
    let lists : (r : ℕ) → resource_schedules g r ≡ numbers (length g.goals) = λ r. rw h.identical refl in
    record {
      count = omega (arith, joint.one_each, count, h.few);
      choices = recursion_from_All (λ c. c ≤ 65535) code
          (All-from_get_or (λ c. c ≤ 65535) code 0 (λ i lt. omega (arith, joint.in_list i lt, ap length (lists (i + 1)), length-numbers_from 1 (length g.goals), h.goals)));
    }

fraction_in : (f : Fraction) → IsReduced f → BothPartsFit f → IsFraction f
fraction_in f h p = record { num = p.0; den = p.1; reduced = h }

level_in : (g : Game) → HasFew g → (num den : ℤ) (why : Level) → IsReasonOf g num den why → IsLevel why
level_in g h num den Resources r = tt
level_in g h num den (Target j) r = (r.floor.from_one, omega (arith, r.floor.in_range, h.goals))

pub in_ranges : (g : Game) → IsGame g → is_scaled g ≡ true → (r : Report) → IsOptimalReport g r → IsSized r.tickets → BothPartsFit r.value → HasParts r.tree → IsReport r
in_ranges g is sc r h sized value level =
    let few = few_of g is sc in
    let k = r.tickets.tickets in
    let c = h.tickets.commitment in
    let parts : BothPartsFit h.level = subst HasPartsLayer (out_closed (Water h.level h.why)) (subst HasParts h.tree level) in
    let short = All-weaker (λ (x : Ticket). IsLegal g x.play.code) (λ (x : Ticket). IsShort x.play.code) (λ x. short_play g few x.play.code) k c.legal in
    let fact : IsFact (Water h.level h.why) = (fraction_in h.level h.right_level.reduced parts, level_in g few h.level.num h.level.den h.why h.right_level.reason) in
    let node : IsRangedNode 8 (Closed (Water h.level h.why)) = subst (IsLayer (IsRangedNode 7)) (sym (out_closed (Water h.level h.why))) fact in
    record {
      tickets = record {
        rules = h.tickets.rising;
        each = tickets_in k r.tickets.total sized.total short c.positive (omega (arith, ints, h.tickets.total));
        count = omega (arith, sized.count);
        total = sized.total;
      };
      value = fraction_in r.value h.reduced value;
      caps = subst (AllByRecursion IsCap) (sym h.caps) tt;
      tree = subst (IsRangedNode 8) (sym h.tree) node;
      upper = subst IsFraction (sym h.upper) (fraction_in r.value h.reduced value);
      ending = subst IsEnding (sym h.ending) tt;
    }

-- so it is of each answer
answer_at : (g : Game) → IsGame g → (b : Budget) (o : Order) (r : Report) (worked : List Worked) (scaled : Bool) → is_scaled g ≡ scaled
    → MatchBool scaled (IsLevelAnswer g r worked) (IsSearchAnswer g b o r worked) → IsSized r.tickets → BothPartsFit r.value → HasParts r.tree → IsReport r
answer_at g is b o r worked true sc a sized value level = in_ranges g is sc r a.right sized value level
answer_at g is b o r worked false sc a sized value level = a.in_ranges

pub answer_in : (g : Game) → IsGame g → (b : Budget) (o : Order) (r : Report) (worked : List Worked) → IsAnswer g b o r worked → IsSized r.tickets → BothPartsFit r.value → HasParts r.tree
    → IsReport r
answer_in g is b o r worked a = answer_at g is b o r worked (is_scaled g) refl a
