-- What the steps of `make` come of in the whole run, and that one status is due for it.
use Rattle.std.proofs.Common.{◌≡◌, ◌⊎◌, ℕ, zero, suc, ◌<◌, ◌≤◌, ◌*◌, List, [], ◌∷◌, refl, sym, ap, ◌∙◌, subst, arith, inl, inr}
use Rattle.std.specs.Prelude.{bytes_eq, Ok}
use Rattle.std.proofs.lemmas.Bool.{cases_Bool, cases_lt, true≢false}
use Rattle.std.proofs.lemmas.List.{append-nil}
use Rattle.std.proofs.lemmas.Slice.Eq.{bytes_eq-Decides}
use Rattle.sg_model.specs.Limits.{IsCount}
use Rattle.sg_gen.specs.declared.shape.Shape.{Shape}
use Rattle.sg_gen.specs.declared.shape.Shape.TheVariants.{Free, Blocks, Table}
use Rattle.sg_format.specs.GameFiles.{game_of_bytes}
use Rattle.sg_format.specs.GameText.{game_text}
use Rattle.sg_gen.specs.Generated.{made_game}
use Rattle.sg_gen.specs.Shapes.{IsShape, shape_text}
use Rattle.sg_shelf.specs.Files.{Files, HandsOver}
use Rattle.sg_shelf.specs.States.{ShelfState, SinkState}
use Rattle.sg_cli.specs.Commands.{IsSuccess}
use Rattle.sg_cli.specs.Inputs.{Content}
use Rattle.sg_cli.specs.Effects.{Fails, IsDone, surroundings}
use Rattle.sg_cli.specs.ExpectedStatus.{ExpectedStatus}
use Rattle.sg_cli.specs.Making.{IsMadeText, SpellsShape, ends_made, making, refuses_text}
use Rattle.sg_cli.specs.MakingSteps.{MakingFails, WritesMade}
use Rattle.sg_cli.specs.Refusals.{own_status}
use Rattle.sg_cli.specs.declared.refusal.CommandRefusal.{CommandRefusal}
use Rattle.sg_cli.specs.declared.refusal.CommandRefusal.TheVariants.{NotYet, ReportWrong, RosterTooLong, NoShape}
use Rattle.sg_cli.specs.declared.refusal.Refusal.{Refusal}
use Rattle.sg_cli.specs.declared.refusal.Refusal.TheVariants.{Words, NotRead, TooLong, Refused, Own, NotWritten, Memory}
use Rattle.sg_cli.proofs.OneStatus.{IsOne, just, one_refusal, one_taken}
use Rattle.sg_cli.proofs.Progress.{none_read}

-- ---- what is done

pub made_of : (text : List ℕ) (seed : ℕ) (shape : Shape) (items written : List ℕ) → IsShape shape → text ≡ shape_text shape → written ≡ items → items ≡ game_text (made_game shape seed)
    → game_of_bytes items ≡ Ok (made_game shape seed) → IsMadeText text seed written
made_of text seed shape items written in_range spells same is reads = record { of = record { shape = shape; in_range = in_range; spelled = spells }; is_text = same ∙ is; is_file = ap game_of_bytes same ∙ reads }

module _ (hands : HandsOver) (shelf : ShelfState) (text : List ℕ) (seed : ℕ) (before after : SinkState) where
  pub done_making : (status : ℕ) → WritesMade text seed before after status → IsDone hands (making text seed) (surroundings shelf before) (surroundings shelf after) status
  done_making status w =
      record { text = w.written; writes = record { contents = []; read = none_read hands shelf; took = tt; takes = w.made.of; ends = w.success; writes = w.made }; taken = w.taken }

  pub fails_making : (e : Refusal) → MakingFails text seed before after e → Fails hands (making text seed) (surroundings shelf before) (surroundings shelf after) e
  fails_making Words h = absurd h
  fails_making (NotRead kind) h = absurd h
  fails_making (TooLong kind) h = absurd h
  fails_making (Refused fault) h = absurd h
  fails_making (Own NotYet) h = absurd h
  fails_making (Own (ReportWrong line reason)) h = absurd h
  fails_making (Own (RosterTooLong total)) h = absurd h
  fails_making (Own NoShape) h = (record { front = []; rest = []; in_order = refl; contents = []; read = none_read hands shelf; took = tt; refuses = h.0 }, h.1)
  fails_making NotWritten h =
      (h.risen, record { status = 0; text = h.written; writes = record { contents = []; read = none_read hands shelf; took = tt; takes = h.made.of; ends = refl; writes = h.made }; taken = h.taken })
  fails_making Memory h = inl (record { read = []; unread = []; in_order = refl; reads = sym (append-nil shelf.log) }, h)

-- ---- whether a text spells a shape

-- it holds or it doesn't
abbrev Told : Type 0 → Type 0
Told P = P ⊎ (¬ P)

both_told : (P Q : Type 0) → Told P → Told Q → Told (P × Q)
both_told P Q (inl p) (inl q) = inl (p, q)
both_told P Q (inl p) (inr other) = inr (λ h. other h.1)
both_told P Q (inr other) q = inr (λ h. other h.0)

three_told : (P Q R : Type 0) → Told P → Told Q → Told R → Told (P × Q × R)
three_told P Q R (inl p) (inl q) (inl r) = inl (p, q, r)
three_told P Q R (inl p) (inl q) (inr other) = inr (λ h. other h.2)
three_told P Q R (inl p) (inr other) r = inr (λ h. other h.1)
three_told P Q R (inr other) q r = inr (λ h. other h.0)

four_told : (P Q R S : Type 0) → Told P → Told Q → Told R → Told S → Told (P × Q × R × S)
four_told P Q R S (inl p) (inl q) (inl r) (inl x) = inl (p, q, r, x)
four_told P Q R S (inl p) (inl q) (inl r) (inr other) = inr (λ h. other h.3)
four_told P Q R S (inl p) (inl q) (inr other) x = inr (λ h. other h.2)
four_told P Q R S (inl p) (inr other) r x = inr (λ h. other h.1)
four_told P Q R S (inr other) q r x = inr (λ h. other h.0)

same_text : (a b : List ℕ) → Told (a ≡ b)
same_text a b =
    elim (cases_Bool (bytes_eq a b)) [
      | inl yes_same ↦ inl ((bytes_eq-Decides a b).0 yes_same)
      | inr other ↦ inr (λ same. true≢false (sym ((bytes_eq-Decides a b).1 same) ∙ other))
    ]

count_told : (low high n : ℕ) → Told (IsCount low high n)
count_told low high n =
    elim (cases_lt n low) [
      | inl less ↦ inr (λ is. omega (arith, less, is.at_least))
      | inr least ↦ elim (cases_lt high n) [
        | inl more ↦ inr (λ is. omega (arith, more, is.at_most))
        | inr most ↦ inl (record { at_least = least; at_most = most })
      ]
    ]

-- of some number below n, or of none
some_below : (P : ℕ → Type 0) → ((k : ℕ) → Told (P k)) → (n : ℕ) → ((k : ℕ) × P k) ⊎ ((k : ℕ) → k < n → ¬ (P k))
some_below P each zero = inr (λ k lt. absurd (omega (arith, lt)))
some_below P each (suc n) = later (each n) (some_below P each n)
  where
    later : Told (P n) → ((k : ℕ) × P k) ⊎ ((k : ℕ) → k < n → ¬ (P k)) → ((k : ℕ) × P k) ⊎ ((k : ℕ) → k < suc n → ¬ (P k))
    later (inl p) rest = inl (n, p)
    later (inr other) (inl found) = inl found
    later (inr other) (inr none) = inr (λ k lt. elim (cases_lt k n) [ inl less ↦ none k less | inr least ↦ (let e : k ≡ n = omega (arith, lt, least) in λ p. other (subst P e p)) ])

some_number : (P : ℕ → Type 0) (n : ℕ) → ((k : ℕ) → Told (P k)) → ((k : ℕ) → P k → k < n) → Told ((k : ℕ) × P k)
some_number P n each bound = elim (some_below P each n) [ inl found ↦ inl found | inr none ↦ inr (λ found. none found.0 (bound found.0 found.1) found.1) ]

module _ (text : List ℕ) where
  abbrev Spells : Shape → Type 0
  Spells shape = IsShape shape × (text ≡ shape_text shape)

  free_told : Told ((t : ℕ) × ((p : ℕ) × Spells (Free t p)))
  free_told =
      some_number (λ t. (p : ℕ) × Spells (Free t p)) 10001
      (λ t. some_number (λ p. Spells (Free t p)) 201
      (λ p. both_told (IsShape (Free t p)) (text ≡ shape_text (Free t p)) (both_told (IsCount 1 10000 t) (IsCount 0 200 p) (count_told 1 10000 t) (count_told 0 200 p)) (same_text text (shape_text (Free t p))))
      (λ p h. omega (arith, h.0.1.at_most)))
      (λ t h. omega (arith, h.1.0.0.at_most))

  blocks_told : Told ((b : ℕ) × ((w : ℕ) × ((s : ℕ) × Spells (Blocks b w s))))
  blocks_told =
      some_number (λ b. (w : ℕ) × ((s : ℕ) × Spells (Blocks b w s))) 9
      (λ b. some_number (λ w. (s : ℕ) × Spells (Blocks b w s)) 11
      (λ w. some_number (λ s. Spells (Blocks b w s)) 1001
      (λ s. both_told (IsShape (Blocks b w s)) (text ≡ shape_text (Blocks b w s))
      (three_told (IsCount 1 8 b) (IsCount 2 10 w) (IsCount 1 1000 s) (count_told 1 8 b) (count_told 2 10 w) (count_told 1 1000 s))
      (same_text text (shape_text (Blocks b w s))))
      (λ s h. omega (arith, h.0.2.at_most)))
      (λ w h. omega (arith, h.1.0.1.at_most)))
      (λ b h. omega (arith, h.1.1.0.0.at_most))

  few_told : (n : ℕ) → Told (n ≤ 200000)
  few_told n = elim (cases_lt 200000 n) [ inl more ↦ inr (λ few. omega (arith, more, few)) | inr few ↦ inl few ]

  table_told : Told ((r : ℕ) × ((a : ℕ) × ((l : ℕ) × Spells (Table r a l))))
  table_told =
      some_number (λ r. (a : ℕ) × ((l : ℕ) × Spells (Table r a l))) 4097
      (λ r. some_number (λ a. (l : ℕ) × Spells (Table r a l)) 65
      (λ a. some_number (λ l. Spells (Table r a l)) 9
      (λ l. both_told (IsShape (Table r a l)) (text ≡ shape_text (Table r a l))
      (four_told (IsCount 1 4096 r) (IsCount 1 64 a) (IsCount 1 8 l) (r * a * l ≤ 200000) (count_told 1 4096 r) (count_told 1 64 a) (count_told 1 8 l) (few_told (r * a * l)))
      (same_text text (shape_text (Table r a l))))
      (λ l h. omega (arith, h.0.2.at_most)))
      (λ a h. omega (arith, h.1.0.1.at_most)))
      (λ r h. omega (arith, h.1.1.0.0.at_most))

  none_spelled : ¬ ((t : ℕ) × ((p : ℕ) × Spells (Free t p))) → ¬ ((b : ℕ) × ((w : ℕ) × ((s : ℕ) × Spells (Blocks b w s)))) → ¬ ((r : ℕ) × ((a : ℕ) × ((l : ℕ) × Spells (Table r a l)))) → (shape : Shape) → ¬ (Spells shape)
  none_spelled free blocks table (Free t p) h = free (t, (p, h))
  none_spelled free blocks table (Blocks b w s) h = blocks (b, (w, (s, h)))
  none_spelled free blocks table (Table r a l) h = table (r, (a, (l, h)))

  spelled : Told (SpellsShape text)
  spelled =
      elim free_told [
        | inl f ↦ inl (record { shape = Free f.0 f.1.0; in_range = f.1.1.0; spelled = f.1.1.1 })
        | inr free ↦ elim blocks_told [
          | inl b ↦ inl (record { shape = Blocks b.0 b.1.0 b.1.1.0; in_range = b.1.1.1.0; spelled = b.1.1.1.1 })
          | inr blocks ↦ elim table_told [
            | inl m ↦ inl (record { shape = Table m.0 m.1.0 m.1.1.0; in_range = m.1.1.1.0; spelled = m.1.1.1.1 })
            | inr table ↦ inr (λ s. none_spelled free blocks table s.shape (s.in_range, s.spelled))
          ]
        ]
      ]

-- ---- the status that is due

module _ (files : Files) (text : List ℕ) (seed : ℕ) where
  not_refused : SpellsShape text → (own : CommandRefusal) → ¬ (refuses_text text [] own)
  not_refused is NotYet h = h
  not_refused is (ReportWrong line reason) h = h
  not_refused is (RosterTooLong total) h = h
  not_refused is NoShape h = h is

  refused_so : (own : CommandRefusal) → refuses_text text [] own → own_status own ≡ 2
  refused_so NotYet h = absurd h
  refused_so (ReportWrong line reason) h = absurd h
  refused_so (RosterTooLong total) h = absurd h
  refused_so NoShape h = refl

  pub one_making : IsOne (ExpectedStatus (making text seed) files)
  one_making =
      elim (spelled text) [
        | inl is ↦ one_taken (making text seed).plan [] (ends_made []) is (not_refused is) (just 0)
        | inr none ↦ one_refusal (making text seed).plan [] (ends_made []) NoShape none refused_so none
      ]

-- it ends with success alone
pub success_making : (contents : List Content) (status : ℕ) → ends_made contents status → IsSuccess status
success_making [] status h = inl h
success_making (content ∷ contents) status h = absurd h
