-- An answer has one cause.
use Rattle.std.proofs.Common.{◌≡◌, ℕ, ◌<◌, ◌≤◌, ◌⊎◌, inl, inr, ap, arith, refl, sym, ◌∙◌, subst, Option, Some, None}
use Rattle.std.proofs.lemmas.Int.{ints}
use Rattle.sg_linear.proofs.MoveLaws.{leaves-unique}
use Rattle.sg_rows.specs.Rows.{place}
use Rattle.sg_lp.specs.Programs.{Program, member_entry}
use Rattle.sg_lp.specs.Pricing.{Answer, clean, found, spent, wide}
use Rattle.sg_lp.specs.States.{IsTableau, Tableau, row_at}
use Rattle.sg_lp.specs.Moves.{IsEntering, IsLeaving, NamedStep, first_shown, move_steps}
use Rattle.sg_lp.specs.declared.column.Column.{Column}
use Rattle.sg_lp.specs.declared.column.Enter.{Enter}
use Rattle.sg_lp.specs.declared.column.Enter.TheVariants.{Slack, Col}
use Rattle.sg_lp.proofs.Nexts.{entering-one}
use Rattle.sg_simplex.specs.declared.turn.Turn.{Turn}
use Rattle.sg_simplex.specs.declared.turn.Turn.TheVariants as turn
use Rattle.sg_simplex.specs.Turns.{EntersBy, HasCause, IsPriced, Pricer}

-- what a move that is tried answers, and what pricing ends a turn with
abbrev told_move : Option NamedStep → Turn
told_move None = turn.Moved
told_move (Some x) = turn.Wide x.name x.step

abbrev told_end : Answer → Turn
told_end (found c) = turn.Moved
told_end (clean n) = turn.Done
told_end spent = turn.LooksSpent
told_end (wide name w) = turn.Wide name w

pub entering_of : (p : Program) (price : Pricer) (t : Tableau) (looks : ℕ) (s : Enter) → EntersBy p price t looks s → IsEntering p t s
entering_of p price t looks (Slack i) e = e
entering_of p price t looks (Col c) e = e.0

module _ (p : Program) (price : Pricer) (t : Tableau) (steps pivots looks : ℕ) (st : IsTableau p t) where
  -- the moves are spent, or a row leaves by the member
  abbrev Ends : Turn → Enter → Type 0
  Ends x s = ((pivots ≤ steps) × (x ≡ turn.PivotsSpent)) ⊎ ((steps < pivots) × ((r : ℕ) × (IsLeaving p t s r × (x ≡ told_move (first_shown (move_steps p t s r))))))

  -- a member enters
  record Entering (a : Turn) : Type 0 where
    member : Enter
    enters : EntersBy p price t looks member
    ends : Ends a member

  -- pricing ends the turn
  record Ending (a : Turn) : Type 0 where
    answer : Answer
    priced : IsPriced price t looks answer
    told : a ≡ told_end answer
    none : (c : Column) → answer ≡ found c → ⊥

  by_kind : (a : Turn) → HasCause p price t steps pivots looks a → Entering a ⊎ Ending a
  by_kind turn.Moved h = let m = h.1 in inl (record {
    member = m.next.entering;
    enters = m.enters;
    ends = inr (m.room, (m.next.leaving, (m.next.moves.leaves, ap told_move (sym m.fit))));
  })
  by_kind turn.Done h = inr (record { answer = clean h.count; priced = h.priced; told = refl; none = λ c e. cc })
  by_kind turn.PivotsSpent h = inl (record { member = h.member; enters = h.enters; ends = inl (h.spent_all, refl) })
  by_kind turn.LooksSpent h = inr (record { answer = spent; priced = h; told = refl; none = λ c e. cc })
  by_kind (turn.Wide name w) (inl h) = inr (record { answer = wide name w; priced = h; told = refl; none = λ c e. cc })
  by_kind (turn.Wide name w) (inr h) = inl (record {
    member = h.member;
    enters = h.enters;
    ends = inr (h.room, (h.row, (h.leaves, ap told_move (sym h.shown))));
  })

  not_both : (a b : Turn) → Entering a → Ending b → ⊥
  not_both a b e d = at e.member e.enters
    where
      at : (s : Enter) → EntersBy p price t looks s → ⊥
      at (Slack i) h = let up = d.priced.above i (let l = st.shaped.y_long in let w = h.0 in omega arith) in omega (arith, ints, up, h.1)
      at (Col c) h = d.none c (sym d.priced.answers ∙ h.1)

  both_enter : (a b : Turn) → Entering a → Entering b → a ≡ b
  both_enter a b e d = by e.ends d.ends
    where
      same : d.member ≡ e.member
      same = entering-one p t st.shaped.y_long d.member e.member (entering_of p price t looks d.member d.enters) (entering_of p price t looks e.member e.enters)

      by : Ends a e.member → Ends b d.member → a ≡ b
      by (inl x) (inl y) = x.1 ∙ sym y.1
      by (inl x) (inr y) = absurd (let f = x.0 in let g = y.0 in omega arith)
      by (inr x) (inl y) = absurd (let f = x.0 in let g = y.0 in omega arith)
      by (inr x) (inr y) =
          let s = e.member in
          let there = subst (λ (m : Enter). IsLeaving p t m y.1.0) same y.1.1.0 in
          let told = subst (λ (m : Enter). b ≡ told_move (first_shown (move_steps p t m y.1.0))) same y.1.1.1 in
          let row = leaves-unique p.height (member_entry p) (λ i. place (row_at t i)) s x.1.0 y.1.0 x.1.1.0 there in
          x.1.1.1 ∙ ap (λ (r : ℕ). told_move (first_shown (move_steps p t s r))) row ∙ sym told

pub cause_one : (p : Program) (price : Pricer) (t : Tableau) (steps pivots looks : ℕ) (a b : Turn) → IsTableau p t → HasCause p price t steps pivots looks a → HasCause p price t steps pivots looks b → a ≡ b
cause_one p price t steps pivots looks a b st x y = by (by_kind p price t steps pivots looks st a x) (by_kind p price t steps pivots looks st b y)
  where
    by : Entering p price t steps pivots looks st a ⊎ Ending p price t steps pivots looks st a → Entering p price t steps pivots looks st b ⊎ Ending p price t steps pivots looks st b → a ≡ b
    by (inl e) (inl d) = both_enter p price t steps pivots looks st a b e d
    by (inl e) (inr d) = absurd (not_both p price t steps pivots looks st a b e d)
    by (inr e) (inl d) = absurd (not_both p price t steps pivots looks st b a d e)
    by (inr e) (inr d) = e.told ∙ ap told_end (sym e.priced.answers ∙ d.priced.answers) ∙ sym d.told
