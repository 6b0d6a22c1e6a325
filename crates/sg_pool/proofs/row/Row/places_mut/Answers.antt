use Rattle.std.proofs.Common.{◌≡◌, ℕ, List, ◌++◌, length, take, drop, refl, ap, ◌∙◌, arith}
use Rattle.std.specs.Prelude.{ℤ}
use Rattle.sg_pool.specs.Lending.{with_places}
use Rattle.sg_pool.proofs.row.Row.places_mut.Goals as goal

pub returns : goal.returns
returns c =
    let items = c.self.inside.places.items in
    let long : c.self.inside.places.len ≡ length items = (let h = c.self.inside.places.ok in omega arith) in
    ((refl, λ w. ap (λ (n : ℕ). take n (w ++ drop (length w) items)) long ∙ ap (λ (row : List ℤ). with_places row w) c.self.view_is), record { lends = tt; value = c.as_mut_slice.ensures.value ∙ c.self.view_is })
