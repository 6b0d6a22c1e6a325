-- The tree has one level while the caps may change.
use Rattle.std.proofs.Common.{true, ◌≡◌, ◌⊎◌, ◌+◌, ◌≤◌, [], ◌∷◌, ◌++◌, sym, ◌∙◌, subst, refl, arith, Some, None, inl, inr}
use Rattle.sg_tree.specs.declared.fix.Fix.{Fix}
use Rattle.sg_tree.specs.declared.worked.Worked.{Worked}
use Rattle.sg_search.specs.declared.held.Stuck.{Stuck}
use Rattle.sg_search.specs.Searches.{Task, Search, first_search, worked_count, stuck_count}
use Rattle.sg_search.specs.Changes.{CapsAreDone, Change, takes, branches, moves, ends, works, sticks, Goes, with_lane, begun}
use Rattle.sg_search.specs.PlaceLaws.{SplitWhenCapsAreDone}
use Rattle.sg_search.proofs.Placed.{runs-keep, stuck-more, worked-more}

abbrev pub IsLevelled : Task → Search → Type 0
IsLevelled p s = (s.splits ≡ [] ∷ []) ⊎ CapsAreDone p.game s

-- splits stay, and what is worked or stuck stays so
levelled-kept : (p : Task) (s t : Search) → t.splits ≡ s.splits → ((x : Fix) → worked_count s x + stuck_count s x ≤ worked_count t x + stuck_count t x) → IsLevelled p s → IsLevelled p t
levelled-kept p s t e more (inl one) = inl (e ∙ one)
levelled-kept p s t e more (inr done) = inr (λ node lone. let a = done node lone in let b = more node in omega (arith, a, b))

pub step-levelled : (p : Task) (s : Search) → IsLevelled p s → (c : Change) (t : Search) → Goes p s c t → IsLevelled p t
step-levelled p s ok (takes lane node) t goes = subst (IsLevelled p) (sym goes.2) (levelled-kept p s (with_lane s lane (begun node)) refl (λ x. omega arith) ok)
step-levelled p s ok (branches lane acts) t goes = subst (IsLevelled p) (sym goes.4) (inr goes.2)
step-levelled p s ok (moves lane) t goes = subst (IsLevelled p) (sym goes.2) ok
step-levelled p s ok (ends lane) t goes = subst (IsLevelled p) (sym goes.2) (levelled-kept p s (with_lane s lane (Some (record { node = goes.0; ended = true }))) refl (λ x. omega arith) ok)
step-levelled p s ok (works lane fact point) t goes =
    let w : Worked = record { fix = goes.0; fact = fact; point = point } in
    let u : Search = record (with_lane s lane None) { worked = s.worked ++ (w ∷ []) } in
    subst (IsLevelled p) (sym goes.2) (levelled-kept p s u refl (λ x. let f = worked-more s w x in omega (arith, f)) ok)
step-levelled p s ok (sticks lane cause) t goes =
    let w : Stuck = record { node = goes.0; cause = cause } in
    let u : Search = record (with_lane s lane None) { stuck = s.stuck ++ (w ∷ []) } in
    subst (IsLevelled p) (sym goes.2) (levelled-kept p s u refl (λ x. let f = stuck-more s w x in omega (arith, f)) ok)

pub split_when_caps_are_done : SplitWhenCapsAreDone
split_when_caps_are_done p peopled cs t run = runs-keep p (IsLevelled p) (step-levelled p) cs (first_search p) t (inl refl) run
