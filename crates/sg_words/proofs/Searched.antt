-- Arguments that are not eight texts.
use Rattle.std.proofs.Common.{◌≡◌, ℕ, ◌<◌, ◌≤◌, List, [], ◌∷◌, length, map, Bor, Some, None, refl, arith, slice_index_or}
use Rattle.sg_options.specs.declared.budget.Budget.{Budget}
use Rattle.sg_options.specs.declared.order.Order.{Order}
use Rattle.sg_words.specs.Words.{Text}
use Rattle.sg_options.specs.declared.order.Choice.{Choice}
use Rattle.sg_options.specs.declared.order.Walk.{Walk}
use Rattle.sg_words.specs.Kinds.{number_read}
use Rattle.sg_words.specs.Commands.{Asked, family_read, lanes_read, walk_read, with_search}

module _ (command : Text → Budget → Order → Asked) where
  pub texts_lack : (texts : List (Bor (List ℕ))) → length texts < 8 → None ≡ with_search command (map (λ text. text.now) texts)
  texts_lack [] few = refl
  texts_lack (a ∷ []) few = refl
  texts_lack (a ∷ b ∷ []) few = refl
  texts_lack (a ∷ b ∷ c ∷ []) few = refl
  texts_lack (a ∷ b ∷ c ∷ d ∷ []) few = refl
  texts_lack (a ∷ b ∷ c ∷ d ∷ e ∷ []) few = refl
  texts_lack (a ∷ b ∷ c ∷ d ∷ e ∷ f ∷ []) few = refl
  texts_lack (a ∷ b ∷ c ∷ d ∷ e ∷ f ∷ g ∷ []) few = refl
  texts_lack (a ∷ b ∷ c ∷ d ∷ e ∷ f ∷ g ∷ h ∷ texts) few = absurd (omega (arith, few))

  pub texts_exceed : (texts : List (Bor (List ℕ))) → 9 ≤ length texts → None ≡ with_search command (map (λ text. text.now) texts)
  texts_exceed [] many = absurd (omega (arith, many))
  texts_exceed (a ∷ []) many = absurd (omega (arith, many))
  texts_exceed (a ∷ b ∷ []) many = absurd (omega (arith, many))
  texts_exceed (a ∷ b ∷ c ∷ []) many = absurd (omega (arith, many))
  texts_exceed (a ∷ b ∷ c ∷ d ∷ []) many = absurd (omega (arith, many))
  texts_exceed (a ∷ b ∷ c ∷ d ∷ e ∷ []) many = absurd (omega (arith, many))
  texts_exceed (a ∷ b ∷ c ∷ d ∷ e ∷ f ∷ []) many = absurd (omega (arith, many))
  texts_exceed (a ∷ b ∷ c ∷ d ∷ e ∷ f ∷ g ∷ []) many = absurd (omega (arith, many))
  texts_exceed (a ∷ b ∷ c ∷ d ∷ e ∷ f ∷ g ∷ h ∷ []) many = absurd (omega (arith, many))
  texts_exceed (a ∷ b ∷ c ∷ d ∷ e ∷ f ∷ g ∷ h ∷ i ∷ texts) many = refl

  -- exactly eight, each read as it is to be
  pub eight : (texts : List (Bor (List ℕ))) → 8 ≤ length texts → length texts < 9 → (nodes pivots looks : ℕ) (walk : Walk) (lanes seed : ℕ) (family : Choice)
      → nodes ≡ number_read (slice_index_or texts 1 (record { ref_ptr = (0, 0); now = [] })).now
      → pivots ≡ number_read (slice_index_or texts 2 (record { ref_ptr = (0, 0); now = [] })).now
      → looks ≡ number_read (slice_index_or texts 3 (record { ref_ptr = (0, 0); now = [] })).now
      → walk ≡ walk_read (slice_index_or texts 5 (record { ref_ptr = (0, 0); now = [] })).now
      → lanes ≡ lanes_read (slice_index_or texts 6 (record { ref_ptr = (0, 0); now = [] })).now
      → seed ≡ number_read (slice_index_or texts 7 (record { ref_ptr = (0, 0); now = [] })).now
      → family ≡ family_read (slice_index_or texts 4 (record { ref_ptr = (0, 0); now = [] })).now
      → Some (command (slice_index_or texts 0 (record { ref_ptr = (0, 0); now = [] })).now (record { nodes = nodes; pivots = pivots; looks = looks })
      (record { walk = walk; lanes = lanes; seed = seed; family = family })) ≡ with_search command (map (λ text. text.now) texts)
  eight [] many few n p l w k s f a b c d e g h = absurd (omega (arith, many))
  eight (x1 ∷ []) many few n p l w k s f a b c d e g h = absurd (omega (arith, many))
  eight (x1 ∷ x2 ∷ []) many few n p l w k s f a b c d e g h = absurd (omega (arith, many))
  eight (x1 ∷ x2 ∷ x3 ∷ []) many few n p l w k s f a b c d e g h = absurd (omega (arith, many))
  eight (x1 ∷ x2 ∷ x3 ∷ x4 ∷ []) many few n p l w k s f a b c d e g h = absurd (omega (arith, many))
  eight (x1 ∷ x2 ∷ x3 ∷ x4 ∷ x5 ∷ []) many few n p l w k s f a b c d e g h = absurd (omega (arith, many))
  eight (x1 ∷ x2 ∷ x3 ∷ x4 ∷ x5 ∷ x6 ∷ []) many few n p l w k s f a b c d e g h = absurd (omega (arith, many))
  eight (x1 ∷ x2 ∷ x3 ∷ x4 ∷ x5 ∷ x6 ∷ x7 ∷ []) many few n p l w k s f a b c d e g h = absurd (omega (arith, many))
  eight (x1 ∷ x2 ∷ x3 ∷ x4 ∷ x5 ∷ x6 ∷ x7 ∷ x8 ∷ []) many few n p l w k s f a b c d e g h = cc
  eight (x1 ∷ x2 ∷ x3 ∷ x4 ∷ x5 ∷ x6 ∷ x7 ∷ x8 ∷ x9 ∷ texts) many few n p l w k s f a b c d e g h = absurd (omega (arith, few))
