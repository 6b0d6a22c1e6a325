-- The tests of caps, in order: of each its form, its facts and its bound.
use Rattle.std.proofs.Common.{◌≡◌, ◌∙◌, ℕ, ◌+◌, ◌<◌, ◌≤◌, ◌-◌, ◌^◌, min, List, [], ◌∷◌, ◌++◌, length, drop, get_or, Ok, ap, subst, sym, refl, arith, inl, inr}
use Rattle.std.specs.List.{All}
use Rattle.std.proofs.lemmas.List.{append_assoc, drop_all, drop_more}
use Rattle.sg_model.specs.Games.{Game}
use Rattle.sg_tree.specs.declared.fact.Fact.{Fact}
use Rattle.sg_tree.specs.declared.report.Cap.{Cap}
use Rattle.sg_tree.specs.declared.report.Report.{Report}
use Rattle.sg_bounds.specs.Caps.{IsUnderCap}
use Rattle.sg_bounds.specs.Checking.{AllPass, Passes, Stop, bound_stops, cap_lines, cap_stops, cap_within, capped, caps_end, caps_stops, fact_lines, proof_lines, proof_stops, root_line, value_line}
use Rattle.sg_bounds.specs.Regions.{alone}
use Rattle.sg_check.specs.declared.refusal.Refusal.{Refusal}
use Rattle.sg_check.specs.Answering.{LineAnswers, TellsFirst, held_line}
use Rattle.sg_check.specs.Parts.{shown_stops}
use Rattle.sg_check.proofs.Firsts.{AllPass-append, FirstFails-left, FirstFails-right, IsRest, rest-fails, rest-itself, rest-next}

fact_at : (facts : List Fact) (i : ℕ) (x : Fact) → i < length facts → x ≡ get_or facts i x → drop i facts ≡ x ∷ drop (i + 1) facts
fact_at facts i x lt is = drop_more facts i x lt ∙ ap (λ (y : Fact). y ∷ drop (i + 1) facts) (sym is)

cap_here : (caps : List Cap) (i : ℕ) (x : Cap) → i < length caps → x ≡ get_or caps i x → drop i caps ≡ x ∷ drop (i + 1) caps
cap_here caps i x lt is = drop_more caps i x lt ∙ ap (λ (y : Cap). y ∷ drop (i + 1) caps) (sym is)

-- ---- the facts of a cap

module _ (g : Game) (r : Report) (l n : ℕ) (facts : List Fact) where
  -- what a walk over the facts from line n has come to, before fact i
  pub record HasShown (next i : ℕ) : Type 0 where
    pub at : ℕ
    pub line : next ≡ held_line at
    pub rest : IsRest g r (proof_stops l 1 n facts) (proof_stops l (i + 1) at (drop i facts))
    pub lines : at + proof_lines (drop i facts) ≡ n + proof_lines facts

  pub shown-start : (line : ℕ) → line ≡ held_line n → HasShown line 0
  shown-start line e = record { at = n; line = e; rest = rest-itself g r (proof_stops l 1 n facts); lines = refl }

  module _ (next i : ℕ) (x : Fact) (lt : i < length facts) (is : x ≡ get_or facts i x) (h : HasShown next i) where
    here : IsRest g r (proof_stops l 1 n facts) (shown_stops h.at (alone l (i + 1)) x ++ proof_stops l (i + 1 + 1) (h.at + fact_lines x) (drop (i + 1) facts))
    here = subst (λ (fs : List Fact). IsRest g r (proof_stops l 1 n facts) (proof_stops l (i + 1) h.at fs)) (fact_at facts i x lt is) h.rest

    pub shown-more : (lines after : ℕ) → ((k : ℕ) → next ≡ held_line k → AllPass g r (shown_stops k (alone l (i + 1)) x)) → lines ≡ held_line (fact_lines x) → after ≡ min (next + lines) (2 ^ 64 - 1)
        → HasShown after (i + 1)
    shown-more lines after answers e k =
        let whole = subst (λ (fs : List Fact). h.at + proof_lines fs ≡ n + proof_lines facts) (fact_at facts i x lt is) h.lines in
        record {
          at = h.at + fact_lines x;
          line = omega (arith, h.line, e, k);
          rest = rest-next g r (proof_stops l 1 n facts) (shown_stops h.at (alone l (i + 1)) x) (proof_stops l (i + 1 + 1) (h.at + fact_lines x) (drop (i + 1) facts)) here (answers h.at h.line);
          lines = omega (arith, whole);
        }

    pub shown-fails : (f : Refusal) → ((k : ℕ) → next ≡ held_line k → TellsFirst g r (shown_stops k (alone l (i + 1)) x) f) → TellsFirst g r (proof_stops l 1 n facts) f
    shown-fails f answers =
        let a = answers h.at h.line in
        (a.0, rest-fails g r (proof_stops l 1 n facts) (shown_stops h.at (alone l (i + 1)) x) (proof_stops l (i + 1 + 1) (h.at + fact_lines x) (drop (i + 1) facts)) here a.0 f.reason a.1, a.2)

  pub shown-end : (next i : ℕ) → length facts ≤ i → HasShown next i → LineAnswers g r (proof_stops l 1 n facts) (n + proof_lines facts) (Ok next)
  shown-end next i le h =
      let none = drop_all i facts le in
      let lines = subst (λ (fs : List Fact). h.at + proof_lines fs ≡ n + proof_lines facts) none h.lines in
      let same : h.at ≡ n + proof_lines facts = omega (arith, lines) in
      (h.rest.pass (subst (λ (fs : List Fact). AllPass g r (proof_stops l (i + 1) h.at fs)) (sym none) tt), h.line ∙ ap held_line same)

-- ---- one cap

pub cap-unlike : (g : Game) (r : Report) (l n line : ℕ) (c : Cap) → line ≡ held_line n → (Passes g r (capped l c) → ⊥) → TellsFirst g r (cap_stops l n c) (record { line = line; reason = 4 })
cap-unlike g r l n line c e fails = (n, inl (fails, refl, refl), e)

module _ (g : Game) (r : Report) (l n : ℕ) (c : Cap) (passes : Passes g r (capped l c)) where
  abbrev last : List Stop
  last = record { line = n; reason = 4; test = cap_within l c.v c.proof } ∷ []

  pub cap-fact : (f : Refusal) → TellsFirst g r (proof_stops l 1 (n + 1) c.proof) f → TellsFirst g r (cap_stops l n c) f
  cap-fact f h = (h.0, inr (passes, FirstFails-left g r (proof_stops l 1 (n + 1) c.proof) last h.0 f.reason h.1), h.2)

  pub cap-above : (line : ℕ) → line ≡ held_line n → AllPass g r (proof_stops l 1 (n + 1) c.proof) → (All (IsUnderCap g l c.v) c.proof → ⊥)
      → TellsFirst g r (cap_stops l n c) (record { line = line; reason = 4 })
  cap-above line e h fails = (n, inr (passes, FirstFails-right g r (proof_stops l 1 (n + 1) c.proof) last n 4 h (inl (fails, refl, refl))), e)

  pub cap-passes : (next : ℕ) → LineAnswers g r (proof_stops l 1 (n + 1) c.proof) (n + 1 + proof_lines c.proof) (Ok next) → All (IsUnderCap g l c.v) c.proof
      → LineAnswers g r (cap_stops l n c) (n + 1 + proof_lines c.proof) (Ok next)
  cap-passes next h under = ((passes, AllPass-append g r (proof_stops l 1 (n + 1) c.proof) last h.0 (under, tt)), h.1)

-- ---- the caps in order

module _ (g : Game) (r : Report) where
  abbrev ends : List Stop
  ends = record { line = root_line r; reason = 4; test = caps_end } ∷ []

  -- what a walk over the caps has come to, before cap i
  pub record HasCapped (next i : ℕ) : Type 0 where
    pub at : ℕ
    pub line : next ≡ held_line at
    pub rest : IsRest g r (bound_stops r) (caps_stops (i + 2) at (drop i r.caps) ++ ends)
    pub lines : at + cap_lines (drop i r.caps) ≡ root_line r

  pub capped-start : (line : ℕ) → line ≡ held_line (value_line r + 1) → HasCapped line 0
  capped-start line e = record { at = value_line r + 1; line = e; rest = rest-itself g r (bound_stops r); lines = refl }

  module _ (next i : ℕ) (x : Cap) (lt : i < length r.caps) (is : x ≡ get_or r.caps i x) (h : HasCapped next i) where
    abbrev behind : List Stop
    behind = caps_stops (i + 1 + 2) (h.at + 1 + proof_lines x.proof) (drop (i + 1) r.caps) ++ ends

    there : IsRest g r (bound_stops r) (cap_stops (i + 2) h.at x ++ behind)
    there =
        let one = subst (λ (cs : List Cap). IsRest g r (bound_stops r) (caps_stops (i + 2) h.at cs ++ ends)) (cap_here r.caps i x lt is) h.rest in
        let e : i + 2 + 1 ≡ i + 1 + 2 = omega arith in
        let two = subst (IsRest g r (bound_stops r)) (append_assoc (cap_stops (i + 2) h.at x) (caps_stops (i + 2 + 1) (h.at + 1 + proof_lines x.proof) (drop (i + 1) r.caps)) ends) one in
        subst (λ (m : ℕ). IsRest g r (bound_stops r) (cap_stops (i + 2) h.at x ++ (caps_stops m (h.at + 1 + proof_lines x.proof) (drop (i + 1) r.caps) ++ ends))) e two

    pub capped-more : (after : ℕ) → ((k : ℕ) → next ≡ held_line k → LineAnswers g r (cap_stops (i + 2) k x) (k + 1 + proof_lines x.proof) (Ok after)) → HasCapped after (i + 1)
    capped-more after answers =
        let a = answers h.at h.line in
        let whole = subst (λ (cs : List Cap). h.at + cap_lines cs ≡ root_line r) (cap_here r.caps i x lt is) h.lines in
        record {
          at = h.at + 1 + proof_lines x.proof;
          line = a.1;
          rest = rest-next g r (bound_stops r) (cap_stops (i + 2) h.at x) behind there a.0;
          lines = omega (arith, whole);
        }

    pub capped-fails : (f : Refusal) → ((k : ℕ) → next ≡ held_line k → TellsFirst g r (cap_stops (i + 2) k x) f) → TellsFirst g r (bound_stops r) f
    capped-fails f answers =
        let a = answers h.at h.line in
        (a.0, rest-fails g r (bound_stops r) (cap_stops (i + 2) h.at x) behind there a.0 f.reason a.1, a.2)

  module _ (next i : ℕ) (le : length r.caps ≤ i) (h : HasCapped next i) where
    at_end : h.at ≡ root_line r
    at_end = let lines = subst (λ (cs : List Cap). h.at + cap_lines cs ≡ root_line r) (drop_all i r.caps le) h.lines in omega (arith, lines)

    only : IsRest g r (bound_stops r) ends
    only = subst (λ (cs : List Cap). IsRest g r (bound_stops r) (caps_stops (i + 2) h.at cs ++ ends)) (drop_all i r.caps le) h.rest

    pub capped-missing : (length r.caps + 1 ≡ length g.types → ⊥) → TellsFirst g r (bound_stops r) (record { line = next; reason = 4 })
    capped-missing fails = (root_line r, only.fails (root_line r) 4 (inl (fails, refl, refl)), h.line ∙ ap held_line at_end)

    pub capped-end : length r.caps + 1 ≡ length g.types → LineAnswers g r (bound_stops r) (root_line r) (Ok next)
    capped-end e = (only.pass (e, tt), h.line ∙ ap held_line at_end)
