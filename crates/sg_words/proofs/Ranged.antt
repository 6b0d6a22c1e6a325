-- The budget and the order of a search that words ask for are in their ranges.
use Rattle.std.proofs.Common.{◌≡◌, ◌∙◌, ℕ, ◌<◌, ◌≤◌, Bool, true, false, List, [], ◌∷◌, ◌++◌, map, Option, Some, None, refl, sym, ap, subst, arith, codes, inl, inr, nat_lt, lt-ltb}
use Rattle.std.specs.Prelude.{◌⊎◌, ◌&&◌, ◌^◌, min, nat_le, bytes_eq, find, option_map, option_and_then, if◌then◌else◌}
use Rattle.std.proofs.lemmas.Bool.{cases_Bool, leb-true, true≢false}
use Rattle.sg_options.specs.Options.{IsBudget, IsOrder}
use Rattle.sg_words.specs.Words.{Text, Piece, positional_words, values_of}
use Rattle.sg_words.specs.Kinds.{Kind, any, is_number, is_of, number, number_in, number_read, value_of_digits}
use Rattle.sg_words.specs.Usages.{Setting, Usage, are_of, arguments_by, arguments_of, option_value, values_by}
use Rattle.sg_words.specs.Commands.{Asked, Form, Gives, HasRangedOptions, WordsAreInRange, check, command_given, family_read, forms, lanes_read, make, roster, search_settings, show, solve, walk_read, with_one_and_number, with_search, with_two, with_two_and_number}
use Rattle.sg_words.proofs.Written.{words_give}

both : (a b : Bool) → (a && b) ≡ true → (a ≡ true) × (b ≡ true)
both true b e = (refl, e)
both false b e = absurd (true≢false (sym e))

-- the number of a text of a range of 64 bits lies in it
pub record Lies (low high n : ℕ) : Type 0 where
  pub least : low ≤ n
  pub most : n ≤ high

in_range : (low high : ℕ) (text : Text) → high < 2 ^ 64 → is_of (number low high) text ≡ true → Lies low high (number_read text)
in_range low high text fits e =
    let outer = both (is_number text) (nat_le low (value_of_digits text) && nat_le (value_of_digits text) high) e in
    let inner = both (nat_le low (value_of_digits text)) (nat_le (value_of_digits text) high) outer.1 in
    let least : low ≤ value_of_digits text = leb-true low (value_of_digits text) inner.0 in
    let most : value_of_digits text ≤ high = leb-true (value_of_digits text) high inner.1 in
    let below : value_of_digits text < 2 ^ 64 = omega (arith, most, fits) in
    rw (outer.0, lt-ltb (value_of_digits text) (2 ^ 64) below) (record { least = least; most = most })

-- each value is of its setting's kind
abbrev AreValued : List Setting → List Text → Type 0
AreValued [] vs = vs ≡ []
AreValued (s ∷ ss) [] = ⊥
AreValued (s ∷ ss) (v ∷ vs) = (is_of s.kind v ≡ true) × AreValued ss vs

abbrev AreDefaulted : List Setting → Type 0
AreDefaulted [] = Unit {0}
AreDefaulted (s ∷ ss) = (is_of s.kind s.default ≡ true) × AreDefaulted ss

of_kind : (s : Setting) (given : List Text) (v : Text) → is_of s.kind s.default ≡ true → option_value s given ≡ Some v → is_of s.kind v ≡ true
of_kind s [] v d e = let same : s.default ≡ v = cc in subst (λ (x : Text). is_of s.kind x ≡ true) same d
of_kind s (x ∷ []) v d e = go (cases_Bool (is_of s.kind x))
  where
    go : (is_of s.kind x ≡ true) ⊎ (is_of s.kind x ≡ false) → is_of s.kind v ≡ true
    go (inl h) =
        let found : Some x ≡ Some v = sym (ap (λ (b : Bool). if b then Some x else None) h) ∙ e in
        let same : x ≡ v = cc in
        subst (λ (y : Text). is_of s.kind y ≡ true) same h
    go (inr h) = absurd (let none : None ≡ Some v = sym (ap (λ (b : Bool). if b then Some x else None) h) ∙ e in cc)
of_kind s (x ∷ y ∷ xs) v d e = absurd cc

values_are : (settings : List Setting) (given : Text → List Text) (values : List Text) → AreDefaulted settings → values_by settings given ≡ Some values → AreValued settings values
values_are [] given values d e = cc
values_are (s ∷ ss) given values d e = go (option_value s (given s.name)) refl (values_by ss given) refl e (λ vs is. values_are ss given vs d.1 is)
  where
    go : (first : Option Text) → option_value s (given s.name) ≡ first → (others : Option (List Text)) → values_by ss given ≡ others
        → option_and_then (λ value. option_map (λ values. value ∷ values) others) first ≡ Some values
        → ((vs : List Text) → values_by ss given ≡ Some vs → AreValued ss vs) → AreValued (s ∷ ss) values
    go None first_is others others_is both_are later = absurd cc
    go (Some v) first_is None others_is both_are later = absurd cc
    go (Some v) first_is (Some vs) others_is both_are later =
        let same : v ∷ vs ≡ values = cc in
        subst (AreValued (s ∷ ss)) same (of_kind s (given s.name) v d.0 first_is, later vs others_is)

-- the arguments are the positional words and the values
pub record IsGiven (usage : Usage) (arguments : List Text) : Type 0 where
  pub words : List Text
  pub values : List Text
  pub given : Text → List Text
  pub all : arguments ≡ words ++ values
  pub kinds : are_of usage.positionals words ≡ true
  pub read : values_by usage.options given ≡ Some values

arguments_are : (usage : Usage) (pieces : List Piece) (arguments : List Text) → arguments_of usage pieces ≡ Some arguments → IsGiven usage arguments
arguments_are usage pieces arguments e = go (cases_Bool (are_of usage.positionals words))
  where
    words : List Text
    words = positional_words pieces

    given : Text → List Text
    given name = values_of name pieces

    joined : Option (List Text) → Option (List Text)
    joined o = option_map (λ values. words ++ values) o

    by : (values : Option (List Text)) → values_by usage.options given ≡ values → joined values ≡ Some arguments → are_of usage.positionals words ≡ true → IsGiven usage arguments
    by None is j k = absurd cc
    by (Some values) is j k = record { words = words; values = values; given = given; all = cc; kinds = k; read = is }

    go : (are_of usage.positionals words ≡ true) ⊎ (are_of usage.positionals words ≡ false) → IsGiven usage arguments
    go (inl h) = by (values_by usage.options given) refl (sym (ap (λ (b : Bool). if b then joined (values_by usage.options given) else None) h) ∙ e) h
    go (inr h) = absurd (let none : None ≡ Some arguments = sym (ap (λ (b : Bool). if b then joined (values_by usage.options given) else None) h) ∙ e in cc)

-- one positional word, and the values
one_word : (kind : Kind) (words : List Text) → are_of (kind ∷ []) words ≡ true → (word : Text) × (words ≡ word ∷ [])
one_word kind [] e = absurd (true≢false (sym e))
one_word kind (x ∷ []) e = (x, refl)
one_word kind (x ∷ y ∷ words) e = absurd (true≢false (sym (both (is_of kind x) false e).1))

-- seven values
seven : (values : List Text) → AreValued search_settings values → (game : Text) (asked : Asked) → with_search solve (game ∷ values) ≡ Some asked → HasRangedOptions asked
seven [] h game asked e = absurd h
seven (a ∷ []) h game asked e = absurd h.1
seven (a ∷ b ∷ []) h game asked e = absurd h.1.1
seven (a ∷ b ∷ c ∷ []) h game asked e = absurd h.1.1.1
seven (a ∷ b ∷ c ∷ d ∷ []) h game asked e = absurd h.1.1.1.1
seven (a ∷ b ∷ c ∷ d ∷ f ∷ []) h game asked e = absurd h.1.1.1.1.1
seven (a ∷ b ∷ c ∷ d ∷ f ∷ k ∷ []) h game asked e = absurd h.1.1.1.1.1.1
seven (a ∷ b ∷ c ∷ d ∷ f ∷ k ∷ s ∷ []) h game asked e =
    let nodes = in_range 1 1000000 a (omega (arith)) h.0 in
    let pivots = in_range 1 1000000000 b (omega (arith)) h.1.0 in
    let looks = in_range 1 1000000000000000000 c (omega (arith)) h.1.1.0 in
    let lanes = in_range 1 8 k (omega (arith)) h.1.1.1.1.1.0 in
    let same : solve game (record { nodes = number_read a; pivots = number_read b; looks = number_read c }) (record { walk = walk_read f; lanes = lanes_read k; seed = number_read s; family = family_read d }) ≡ asked = cc in
    subst HasRangedOptions same (
      record { some_nodes = nodes.least; most_nodes = nodes.most; some_pivots = pivots.least; most_pivots = pivots.most; some_looks = looks.least; most_looks = looks.most },
      record { some_lanes = some (number_read k) lanes.least; most_lanes = most (number_read k) },
    )
  where
    some : (n : ℕ) → 1 ≤ n → 1 ≤ min 8 n
    some n h = grind (arith, h)

    most : (n : ℕ) → min 8 n ≤ 8
    most n = grind arith
seven (a ∷ b ∷ c ∷ d ∷ f ∷ k ∷ s ∷ x ∷ values) h game asked e = absurd cc

-- the other commands ask for no search
two_texts : (command : Text → Text → Asked) → ((a b : Text) → HasRangedOptions (command a b)) → (texts : List Text) (asked : Asked) → with_two command texts ≡ Some asked → HasRangedOptions asked
two_texts command free [] asked e = absurd cc
two_texts command free (a ∷ []) asked e = absurd cc
two_texts command free (a ∷ b ∷ []) asked e = let same : command a b ≡ asked = cc in subst HasRangedOptions same (free a b)
two_texts command free (a ∷ b ∷ c ∷ texts) asked e = absurd cc

one_text_and_number : (command : Text → ℕ → Asked) → ((a : Text) (n : ℕ) → HasRangedOptions (command a n)) → (texts : List Text) (asked : Asked) → with_one_and_number command texts ≡ Some asked → HasRangedOptions asked
one_text_and_number command free [] asked e = absurd cc
one_text_and_number command free (a ∷ []) asked e = absurd cc
one_text_and_number command free (a ∷ b ∷ []) asked e = let same : command a (number_read b) ≡ asked = cc in subst HasRangedOptions same (free a (number_read b))
one_text_and_number command free (a ∷ b ∷ c ∷ texts) asked e = absurd cc

two_texts_and_number : (command : Text → Text → ℕ → Asked) → ((a b : Text) (n : ℕ) → HasRangedOptions (command a b n)) → (texts : List Text) (asked : Asked) → with_two_and_number command texts ≡ Some asked → HasRangedOptions asked
two_texts_and_number command free [] asked e = absurd cc
two_texts_and_number command free (a ∷ []) asked e = absurd cc
two_texts_and_number command free (a ∷ b ∷ []) asked e = absurd cc
two_texts_and_number command free (a ∷ b ∷ c ∷ []) asked e = let same : command a b (number_read c) ≡ asked = cc in subst HasRangedOptions same (free a b (number_read c))
two_texts_and_number command free (a ∷ b ∷ c ∷ d ∷ texts) asked e = absurd cc

-- what a row promises
abbrev Promises : Form → Type 0
Promises f = (arguments : List Text) (asked : Asked) → IsGiven f.usage arguments → f.asked arguments ≡ Some asked → HasRangedOptions asked

solve_promises : (arguments : List Text) (asked : Asked) (words values : List Text) (given : Text → List Text) → arguments ≡ words ++ values → (word : Text) × (words ≡ word ∷ [])
    → values_by search_settings given ≡ Some values → with_search solve arguments ≡ Some asked → HasRangedOptions asked
solve_promises arguments asked words values given all one read e =
    seven values (values_are search_settings given values (refl, (refl, (refl, (refl, (refl, (refl, (refl, tt))))))) read) one.0 asked
    (ap (λ (xs : List Text). with_search solve (xs ++ values)) (sym one.1) ∙ ap (with_search solve) (sym all) ∙ e)

abbrev AllPromise : List Form → Type 0
AllPromise [] = Unit {0}
AllPromise (f ∷ fs) = Promises f × AllPromise fs

find_all : (fs : List Form) (name : Text) (form : Form) → AllPromise fs → find (λ (f : Form). bytes_eq f.usage.name name) fs ≡ Some form → Promises form
find_all [] name form all e = absurd cc
find_all (first ∷ fs) name form all e = go (cases_Bool (bytes_eq first.usage.name name)) (λ later. find_all fs name form all.1 later)
  where
    go : (bytes_eq first.usage.name name ≡ true) ⊎ (bytes_eq first.usage.name name ≡ false) → (find (λ (f : Form). bytes_eq f.usage.name name) fs ≡ Some form → Promises form) → Promises form
    go (inl h) later =
        let found : Some first ≡ Some form = sym (ap (λ (b : Bool). if b then Some first else find (λ (f : Form). bytes_eq f.usage.name name) fs) h) ∙ e in
        let same : first ≡ form = cc in
        subst Promises same all.0
    go (inr h) later = later (sym (ap (λ (b : Bool). if b then Some first else find (λ (f : Form). bytes_eq f.usage.name name) fs) h) ∙ e)

forms_promise : AllPromise forms
forms_promise = (
  (λ arguments asked g e. solve_promises arguments asked g.words g.values g.given g.all (one_word any g.words g.kinds) g.read e),
  (
    (λ arguments asked g e. two_texts check (λ a b. tt) arguments asked e),
    (
      (λ arguments asked g e. two_texts show (λ a b. tt) arguments asked e),
      (
        (λ arguments asked g e. two_texts_and_number roster (λ a b n. tt) arguments asked e),
        ((λ arguments asked g e. one_text_and_number make (λ a n. tt) arguments asked e), tt),
      ),
    ),
  ),
)

pub words_are_in_range : WordsAreInRange
words_are_in_range words asked e =
    let g = (words_give words asked).0 e in
    find_all forms g.form.usage.name g.form forms_promise g.listed g.arguments asked (arguments_are g.form.usage g.pieces g.arguments g.given) g.taken
