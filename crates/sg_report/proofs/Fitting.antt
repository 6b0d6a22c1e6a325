-- Where the value fits, so does what each type takes.
use Rattle.std.proofs.Common.{◌≡◌, ℕ, ◌≤◌, List, [], ◌∷◌, length, ℤ, pos, refl, ap}
use Rattle.std.specs.List.{All}
use Rattle.std.specs.Prelude.{Result, Ok, Err, is_ok, IsOk}
use Rattle.std.proofs.lemmas.List.Elements.{All-nil, All-cons}
use Rattle.sg_model.specs.declared.ticket.Ticket.{Ticket}
use Rattle.sg_model.specs.Games.{Game, attacker, prior_total}
use Rattle.sg_model.specs.Commitments.{weight_total}
use Rattle.sg_model.specs.Sums.{numbers}
use Rattle.sg_model.proofs.Numbers.{All-numbers-at}
use Rattle.sg_num.specs.declared.step.Wide.{Wide}
use Rattle.sg_num.specs.Exact.{exact_dot_step, exact_times}
use Rattle.sg_game.specs.Counts.{IsTypeOf}
use Rattle.sg_commit.specs.ExactSums.{exact_base, exact_take, exact_worth, worth_from, worth_step}
use Rattle.sg_commit.proofs.ExactSums.{comes}

worth-each : (g : Game) (k : List Ticket) (acc : ℤ) (ls : List ℕ) (z : ℤ) → worth_from g k acc ls ≡ Ok z → All (λ l. IsOk (exact_take g k l)) ls
worth-each g k acc [] z e = All-nil (λ l. IsOk (exact_take g k l))
worth-each g k acc (l ∷ rest) z e =
    let c = comes (worth_step g k acc l) (λ next. worth_from g k next rest) z e in
    let d = comes (exact_take g k l) (λ taken. exact_dot_step acc (attacker g l).prior taken) c.value c.first_is in
    All-cons (λ l. IsOk (exact_take g k l)) l rest (ap is_ok d.first_is) (worth-each g k c.value rest z c.then_is)

-- so each type's take does
takes_fit : (g : Game) (k : List Ticket) → IsOk (exact_base g k) → All (λ l. IsOk (exact_take g k l)) (numbers (length g.types))
takes_fit g k ok = by (exact_base g k) refl ok
  where
    by : (r : Result ℤ Wide) → exact_base g k ≡ r → IsOk r → All (λ l. IsOk (exact_take g k l)) (numbers (length g.types))
    by (Ok z) e h =
        let c = comes (exact_worth g k) (λ worth. exact_times (weight_total k) (prior_total g)) z e in
        worth-each g k (pos 0) (numbers (length g.types)) c.value c.first_is
    by (Err w) e h = cc

pub take_fits : (g : Game) (k : List Ticket) → IsOk (exact_base g k) → (l : ℕ) → IsTypeOf g l → IsOk (exact_take g k l)
take_fits g k ok l known = All-numbers-at (λ l. IsOk (exact_take g k l)) (length g.types) (takes_fit g k ok) l known.0 known.1
