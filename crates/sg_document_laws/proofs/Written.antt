-- Some bytes are read as the document of a game that keeps every promise.
use Rattle.std.proofs.Common.{◌≡◌, ℕ, zero, suc, ◌<◌, ◌≤◌, ◌^◌, Bool, true, false, ◌&&◌, ◌==◌, cond, List, [], ◌∷◌, ◌++◌, length, map, get_or, ℤ, pos, negsuc, ◌-ℤ◌, Option, Some, None, Ok, refl, arith}
use Rattle.std.specs.Prelude.{codes, nat_le, nat_lt, unsigned_abs}
use Rattle.std.specs.Int.{w64}
use Rattle.std.specs.Int.Signed.{mag}
use Rattle.std.specs.List.{All, list_all}
use Rattle.std.specs.Str.{IsAscii}
use Rattle.std.proofs.lemmas.Bool.Decides.{nat_tests}
use Rattle.std.proofs.lemmas.Fmt.{IsAscii-signed}
use Rattle.std.proofs.lemmas.Int.{fits_signed_from_abs, ints}
use Rattle.std.proofs.lemmas.List.{length-map}
use Rattle.std.proofs.lemmas.List.Elements.{All-nil, All-cons, All-head, All-tail, All-weaker}
use Rattle.std.proofs.lemmas.List.Sums.{AllPass-from_list_all}
use Rattle.std.proofs.lemmas.Str.{IsAscii-append}
use Rattle.std.proofs.lemmas.Str.Ascii.{IsAscii-from_all}
use Rattle.toml_parser.specs.Lexical.{is_bare}
use Rattle.toml_writer.specs.Text.{Encoding, basic, encoded, encoding_of, escaped, key_text, literal, multi_basic, multi_literal, needs_escape, opening_newline, quotes_after, string_text, has}
use Rattle.toml.specs.Data.{Data, Members, depth, integer, items_depth, member, members_depth, no_members, string}
use Rattle.sg_model.specs.declared.kind.Kind.{Kind}
use Rattle.sg_model.specs.declared.kind.Kind.TheVariants.{Security, Matrix}
use Rattle.sg_model.specs.Games.{Attacker, Game, Named, Payoff}
use Rattle.sg_model.specs.Limits.{AreLists, AreMembers, IsCount, IsGame, IsMatrixType, IsPay, IsPayoff, IsSecurityType, IsWithin, is_scaled}
use Rattle.sg_model.specs.Names.{AreNames, is_name, is_name_byte}
use Rattle.sg_model.specs.Sums.{nth}
use Rattle.sg_game.specs.Counts.{four}
use Rattle.sg_game.proofs.Listed.{All-unmap}
use Rattle.sg_game.proofs.Steps.{and_both}
use Rattle.sg_format.specs.FaultExamples.{items_of, listed}
use Rattle.sg_format.specs.GameFiles.{game_of_bytes}
use Rattle.sg_format.proofs.Accepted.{accepted}
use Rattle.sg_document_laws.specs.Tables.{matrix_table, member_names, names_data, patrols_table, pays_data, resources_table, table_data, with_scale}
use Rattle.sg_document_laws.specs.Documents.{declared_scale, game_table, game_table_by, named_entry, resource_entries, schedule_entries, type_entries, type_entry}
use Rattle.sg_document_laws.specs.Acceptance.{AcceptedFiles}
use Rattle.sg_document_laws.proofs.Ascending.{ascending}
use Rattle.sg_document_laws.proofs.Spelled.{document_of_game, four_pays}
use Rattle.sg_document_laws.proofs.Texts.{ArePlain, HasPlain, IsPlain, seen, table_read}

-- numbers

small_abs : (z : ℤ) → IsWithin (pos 0 -ℤ pos (2 ^ 32)) (pos (2 ^ 32)) z → unsigned_abs z < 2 ^ 63
small_abs (pos n) h = omega (arith, ints, h.at_most)
small_abs (negsuc n) h = omega (arith, ints, h.at_least)

small_mag : (z : ℤ) → IsWithin (pos 0 -ℤ pos (2 ^ 32)) (pos (2 ^ 32)) z → mag z < 2 ^ 63
small_mag (pos n) h = omega (arith, ints, h.at_most)
small_mag (negsuc n) h = omega (arith, ints, h.at_least)

pub number_plain : (z : ℤ) → IsWithin (pos 0 -ℤ pos (2 ^ 32)) (pos (2 ^ 32)) z → IsPlain (integer z)
number_plain z h = (fits_signed_from_abs w64 z (small_abs z h), IsAscii-signed z (small_mag z h))

pub pay_plain : (z : ℤ) → IsPay z → IsPlain (integer z)
pay_plain z h = number_plain z (record { at_least = omega (arith, ints, h.at_least); at_most = omega (arith, ints, h.at_most) })

pub prior_plain : (z : ℤ) → IsWithin (pos 1) (pos (2 ^ 20)) z → IsPlain (integer z)
prior_plain z h = number_plain z (record { at_least = omega (arith, ints, h.at_least); at_most = omega (arith, ints, h.at_most) })

-- names

-- bytes of a name
abbrev pub AreNameBytes : List ℕ → Type 0
AreNameBytes s = All (λ b. is_name_byte b ≡ true) s

pub unescaped : (multi : Bool) (quotes c : ℕ) → is_name_byte c ≡ true → needs_escape multi quotes c ≡ false
unfolding needs_escape
unescaped multi quotes c h =
    let a : (c == 34) ≡ false = grind (arith, nat_tests) in
    let b : (c == 10) ≡ false = grind (arith, nat_tests) in
    let d : (c == 92) ≡ false = grind (arith, nat_tests) in
    let e : (c == 9) ≡ false = grind (arith, nat_tests) in
    let f : nat_le 32 c ≡ true = grind (arith, nat_tests) in
    let g : (c == 127) ≡ false = grind (arith, nat_tests) in
    rw (a, b, d, e, f, g) refl

pub bytes_ascii : (s : List ℕ) → AreNameBytes s → IsAscii s
bytes_ascii s h = IsAscii-from_all s (All-weaker (λ b. is_name_byte b ≡ true) (λ b. b < 128) (λ b e. grind (arith, nat_tests)) s h)

escaped_ascii : (multi : Bool) (quotes : ℕ) (s : List ℕ) → AreNameBytes s → IsAscii (escaped multi quotes s)
unfolding escaped
escaped_ascii multi quotes [] h = seen [] refl
escaped_ascii multi quotes (c ∷ cs) h =
    let own : is_name_byte c ≡ true = All-head (λ b. is_name_byte b ≡ true) c cs h in
    let plain : needs_escape multi quotes c ≡ false = unescaped multi quotes c own in
    let one : IsAscii (c ∷ []) = bytes_ascii (c ∷ []) (All-cons (λ b. is_name_byte b ≡ true) c [] own (All-nil (λ b. is_name_byte b ≡ true))) in
    rw plain (IsAscii-append (c ∷ []) (escaped multi (quotes_after multi quotes c) cs) one (escaped_ascii multi (quotes_after multi quotes c) cs (All-tail (λ b. is_name_byte b ≡ true) c cs h)))

newline_ascii : (s : List ℕ) → IsAscii (opening_newline s)
newline_ascii s = by_line (has 10 s)
  where
    by_line : (b : Bool) → IsAscii (cond b (10 ∷ []) [])
    by_line true = seen (10 ∷ []) refl
    by_line false = seen [] refl

encoded_ascii : (form : Encoding) (s : List ℕ) → AreNameBytes s → IsAscii (encoded form s)
encoded_ascii basic s h = IsAscii-append (34 ∷ []) (escaped false 0 s ++ 34 ∷ []) (seen (34 ∷ []) refl) (IsAscii-append (escaped false 0 s) (34 ∷ []) (escaped_ascii false 0 s h) (seen (34 ∷ []) refl))
encoded_ascii literal s h = IsAscii-append (39 ∷ []) (s ++ 39 ∷ []) (seen (39 ∷ []) refl) (IsAscii-append s (39 ∷ []) (bytes_ascii s h) (seen (39 ∷ []) refl))
encoded_ascii multi_basic s h =
    IsAscii-append (codes "\"\"\"") (opening_newline s ++ (escaped true 0 s ++ codes "\"\"\"")) (seen (codes "\"\"\"") refl)
    (IsAscii-append (opening_newline s) (escaped true 0 s ++ codes "\"\"\"") (newline_ascii s) (IsAscii-append (escaped true 0 s) (codes "\"\"\"") (escaped_ascii true 0 s h) (seen (codes "\"\"\"") refl)))
encoded_ascii multi_literal s h =
    IsAscii-append (codes "'''") (opening_newline s ++ (s ++ codes "'''")) (seen (codes "'''") refl)
    (IsAscii-append (opening_newline s) (s ++ codes "'''") (newline_ascii s) (IsAscii-append s (codes "'''") (bytes_ascii s h) (seen (codes "'''") refl)))

name_plain : (name : List ℕ) → is_name name ≡ true → IsPlain (string name)
unfolding is_name string_text
name_plain name h =
    encoded_ascii (encoding_of name) name (AllPass-from_list_all is_name_byte name (and_both (nat_le 1 (length name) && nat_le (length name) 64) (list_all is_name_byte name) h).1)

pub security_word : IsPlain (string (codes "security"))
unfolding is_name
security_word = name_plain (codes "security") refl

pub matrix_word : IsPlain (string (codes "matrix"))
unfolding is_name
matrix_word = name_plain (codes "matrix") refl

bare_key : (k : List ℕ) → (nat_lt 0 (length k) && list_all is_bare k) ≡ true → list_all (λ b. nat_lt b 128) k ≡ true → IsAscii (key_text k)
unfolding key_text
bare_key k e h = rw e (seen k h)

-- arrays

items_plain : {X : Type 0} (spell : X → Data) (P : X → Type 0) → ((x : X) → P x → IsPlain (spell x)) → (xs : List X) → All P xs → ArePlain (items_of (map spell xs))
items_plain spell P each [] h = tt
items_plain spell P each (x ∷ xs) h = (each x (All-head P x xs h), items_plain spell P each xs (All-tail P x xs h))

names_plain : (names : List (List ℕ)) → AreNames names → IsPlain (names_data names)
names_plain names h = items_plain string (λ name. is_name name ≡ true) name_plain names h.spelled

rows_plain : (lists : List (List ℤ)) → All (λ row. All IsPay row) lists → IsPlain (table_data lists)
rows_plain lists h = items_plain pays_data (λ row. All IsPay row) (λ row own. items_plain integer IsPay pay_plain row own) lists h

fours_plain : (payoffs : List Payoff) → All IsPayoff payoffs → IsPlain (table_data (map four payoffs))
fours_plain payoffs h = rows_plain (map four payoffs) (All-fours payoffs h)
  where
    All-fours : (ps : List Payoff) → All IsPayoff ps → All (λ row. All IsPay row) (map four ps)
    All-fours [] i = All-nil (λ row. All IsPay row)
    All-fours (p ∷ ps) i = All-cons (λ row. All IsPay row) (four p) (map four ps) (four_pays p (All-head IsPayoff p ps i)) (All-fours ps (All-tail IsPayoff p ps i))

pub member_plain : (names : List (List ℕ)) → AreNames names → (count : ℕ) → length names ≡ count → (m : ℕ) → IsCount 1 count m → IsPlain (string (nth names m []))
member_plain names h count many zero i = absurd (omega (arith, i.at_least))
member_plain names h count many (suc k) i = name_plain (get_or names k []) (h.spelled k [] (omega (arith, many, i.at_most)))

members_plain : (names : List (List ℕ)) → AreNames names → (count : ℕ) → length names ≡ count → (ms : List ℕ) → All (IsCount 1 count) ms → ArePlain (items_of (map string (member_names names ms)))
members_plain names h count many [] i = tt
members_plain names h count many (m ∷ ms) i =
    (member_plain names h count many m (All-head (IsCount 1 count) m ms i), members_plain names h count many ms (All-tail (IsCount 1 count) m ms i))

-- tables

-- a schedule or a resource with a name and known members
pub record IsListed (count limit : ℕ) (x : Named) : Type 0 where
  pub name : is_name x.name ≡ true
  pub members : AreMembers count limit x.members

pub all_listed : (count few limit : ℕ) (lists : List Named) → AreLists count few limit lists → All (IsListed count limit) lists
all_listed count few limit lists h =
    let names = All-unmap (λ (name : List ℕ). is_name name ≡ true) (λ (x : Named). x.name) lists h.names.spelled in
    (λ i d lt. record { name = names i d lt; members = h.members i d lt })

schedules_plain : (names : List (List ℕ)) → AreNames names → (count few limit : ℕ) → length names ≡ count → (lists : List Named) → AreLists count few limit lists
    → IsPlain (listed (map (named_entry (codes "targets") names) lists))
schedules_plain names own count few limit many lists h =
    items_plain (named_entry (codes "targets") names) (IsListed count limit)
    (λ x i. (bare_key (codes "name") refl refl, name_plain x.name i.name, refl, (bare_key (codes "targets") refl refl, members_plain names own count many x.members i.members.known, refl, tt)))
    lists (all_listed count few limit lists h)

resources_plain : (names : List (List ℕ)) → AreNames names → (count few limit : ℕ) → length names ≡ count → (lists : List Named) → AreLists count few limit lists
    → IsPlain (listed (map (named_entry (codes "schedules") names) lists))
resources_plain names own count few limit many lists h =
    items_plain (named_entry (codes "schedules") names) (IsListed count limit)
    (λ x i. (bare_key (codes "name") refl refl, name_plain x.name i.name, refl, (bare_key (codes "schedules") refl refl, members_plain names own count many x.members i.members.known, refl, tt)))
    lists (all_listed count few limit lists h)

-- a type with a name
pub record IsNamed (P : Attacker → Type 0) (x : Attacker) : Type 0 where
  pub name : is_name x.name ≡ true
  pub own : P x

pub all_named : (P : Attacker → Type 0) (types : List Attacker) → AreNames (map (λ (x : Attacker). x.name) types) → All P types → All (IsNamed P) types
all_named P types h each =
    let names = All-unmap (λ (name : List ℕ). is_name name ≡ true) (λ (x : Attacker). x.name) types h.spelled in
    (λ i d lt. record { name = names i d lt; own = each i d lt })

security_plain : (targets : ℕ) (types : List Attacker) → AreNames (map (λ (x : Attacker). x.name) types) → All (IsSecurityType targets) types → IsPlain (listed (map (type_entry Security) types))
security_plain targets types h each =
    items_plain (type_entry Security) (IsNamed (IsSecurityType targets))
    (λ x i. (
      bare_key (codes "name") refl refl,
      name_plain x.name i.name,
      refl,
      (
        bare_key (codes "payoffs") refl refl,
        fours_plain x.payoffs i.own.pays,
        refl,
        (
          bare_key (codes "prior") refl refl,
          prior_plain x.prior i.own.prior,
          refl,
          tt,
        ),
      ),
    ))
    types (all_named (IsSecurityType targets) types h each)

matrix_plain : (goals : ℕ) (types : List Attacker) → AreNames (map (λ (x : Attacker). x.name) types) → All (IsMatrixType goals) types → IsPlain (listed (map (type_entry Matrix) types))
matrix_plain goals types h each =
    items_plain (type_entry Matrix) (IsNamed (IsMatrixType goals))
    (λ x i. (
      bare_key (codes "actions") refl refl,
      names_plain x.actions i.own.action_names,
      refl,
      (
        bare_key (codes "follower") refl refl,
        rows_plain x.follower i.own.follower.pays,
        refl,
        (
          bare_key (codes "leader") refl refl,
          rows_plain x.leader i.own.leader.pays,
          refl,
          (
            bare_key (codes "name") refl refl,
            name_plain x.name i.name,
            refl,
            (
              bare_key (codes "prior") refl refl,
              prior_plain x.prior i.own.prior,
              refl,
              tt,
            ),
          ),
        ),
      ),
    ))
    types (all_named (IsMatrixType goals) types h each)

-- documents

pub one_plain : IsPlain (integer (pos 1))
one_plain = number_plain (pos 1) (record { at_least = omega (arith, ints); at_most = omega (arith, ints) })

-- a scale, where there is one, is plain
abbrev pub IsPlainScale : Option ℤ → Type 0
IsPlainScale (Some z) = IsPlain (integer z)
IsPlainScale None = Unit {0}

pub scale_plain : (scaled : Bool) (z : ℤ) → IsWithin (pos 0) (pos (2 ^ 32)) z → IsPlainScale (cond scaled (Some z) None)
scale_plain true z h = number_plain z (record { at_least = omega (arith, ints, h.at_least); at_most = h.at_most })
scale_plain false z h = tt

-- what holds with a plain scale before the members, and with none
scaled : (P : Members → Type 0) (scale : Option ℤ) (rest : Members) → ((z : ℤ) → IsPlain (integer z) → P (member (codes "scale") (integer z) rest)) → P rest → IsPlainScale scale → P (with_scale scale rest)
scaled P (Some z) rest with without plain = with z plain
scaled P None rest with without plain = without

-- the members at the end of a document in security form
targets_on : (targets types : Data) → IsPlain targets → IsPlain types → HasPlain (member (codes "targets") targets (member (codes "type") types (member (codes "version") (integer (pos 1)) no_members)))
targets_on targets types a b = (bare_key (codes "targets") refl refl, a, refl, (bare_key (codes "type") refl refl, b, refl, (bare_key (codes "version") refl refl, one_plain, refl, tt)))

patrols_file : (scale : Option ℤ) (patrols : ℤ) (targets types : Data) → IsPlainScale scale → IsPlain (integer patrols) → IsPlain targets → IsPlain types → HasPlain (patrols_table scale patrols targets types)
patrols_file scale patrols targets types a b c d =
    let on = targets_on targets types c d in
    scaled (λ (ms : Members). HasPlain (member (codes "form") (string (codes "security")) (member (codes "patrols") (integer patrols) ms))) scale _
    (λ z plain. (bare_key (codes "form") refl refl, security_word, refl, (bare_key (codes "patrols") refl refl, b, refl, (bare_key (codes "scale") refl refl, plain, refl, on))))
    (bare_key (codes "form") refl refl, security_word, refl, (bare_key (codes "patrols") refl refl, b, refl, on)) a

resources_file : (scale : Option ℤ) (targets schedules resources types : Data) → IsPlainScale scale → IsPlain targets → IsPlain schedules → IsPlain resources → IsPlain types
    → HasPlain (resources_table scale targets schedules resources types)
resources_file scale targets schedules resources types a b c d e =
    let on : HasPlain (member (codes "schedule") schedules (member (codes "targets") targets (member (codes "type") types (member (codes "version") (integer (pos 1)) no_members)))) =
    (bare_key (codes "schedule") refl refl, c, refl, targets_on targets types b e) in
    scaled (λ (ms : Members). HasPlain (member (codes "form") (string (codes "security")) (member (codes "resource") resources ms))) scale _
    (λ z plain. (bare_key (codes "form") refl refl, security_word, refl, (bare_key (codes "resource") refl refl, d, refl, (bare_key (codes "scale") refl refl, plain, refl, on))))
    (bare_key (codes "form") refl refl, security_word, refl, (bare_key (codes "resource") refl refl, d, refl, on)) a

matrix_file : (rows types : Data) → IsPlain rows → IsPlain types → HasPlain (matrix_table rows types)
matrix_file rows types a b =
    (bare_key (codes "form") refl refl, matrix_word, refl, (bare_key (codes "rows") refl refl, a, refl, (bare_key (codes "type") refl refl, b, refl, (bare_key (codes "version") refl refl, one_plain, refl, tt))))

pub patrols_few : (scaled : Bool) (n : ℕ) → n ≤ cond scaled 200 32 → IsPlain (integer (pos n))
patrols_few true n h = number_plain (pos n) (record { at_least = omega (arith, ints); at_most = omega (arith, ints, h) })
patrols_few false n h = number_plain (pos n) (record { at_least = omega (arith, ints); at_most = omega (arith, ints, h) })

game_plain : (g : Game) (kind : Kind) (patrols : Option ℕ) → IsGame (record g { kind = kind; patrols = patrols }) → HasPlain (game_table_by kind patrols g)
game_plain g Security (Some n) h =
    patrols_file (declared_scale g) (pos n) (names_data g.goals) (type_entries Security g) (scale_plain (is_scaled g) g.scale h.scale_range) (patrols_few (is_scaled g) n h.defended.few)
    (names_plain g.goals h.targets) (security_plain (length g.goals) g.types h.types.names h.each_type)
game_plain g Security None h =
    resources_file (declared_scale g) (names_data g.goals) (schedule_entries g) (resource_entries g) (type_entries Security g) (scale_plain (is_scaled g) g.scale h.scale_range)
    (names_plain g.goals h.targets) (schedules_plain g.goals h.targets (length g.goals) 500 200 refl g.schedules h.defended.schedules)
    (resources_plain (map (λ (x : Named). x.name) g.schedules) h.defended.schedules.names (length g.schedules) 32 500 (length-map g.schedules (λ (x : Named). x.name)) g.resources h.defended.resources)
    (security_plain (length g.goals) g.types h.types.names h.each_type)
game_plain g Matrix patrols h = matrix_file (names_data g.goals) (type_entries Matrix g) (names_plain g.goals h.rows) (matrix_plain (length g.goals) g.types h.types.names h.each_type)

-- depth

items_deep : {X : Type 0} (spell : X → Data) (n : ℕ) → ((x : X) → depth (spell x) ≤ n) → (xs : List X) → items_depth (items_of (map spell xs)) ≤ n
items_deep spell n each [] = omega arith
items_deep spell n each (x ∷ xs) = omega (arith, each x, items_deep spell n each xs)

names_deep : (names : List (List ℕ)) → depth (names_data names) ≤ 1
names_deep names = omega (arith, items_deep string 0 (λ name. omega arith) names)

rows_deep : (lists : List (List ℤ)) → depth (table_data lists) ≤ 2
rows_deep lists = omega (arith, items_deep pays_data 1 (λ row. omega (arith, items_deep integer 0 (λ z. omega arith) row)) lists)

named_deep : (key : List ℕ) (names : List (List ℕ)) (x : Named) → depth (named_entry key names x) ≤ 3
named_deep key names x = omega (arith, names_deep (member_names names x.members))

type_deep : (kind : Kind) (x : Attacker) → depth (type_entry kind x) ≤ 3
type_deep Security x = omega (arith, rows_deep (map four x.payoffs))
type_deep Matrix x = omega (arith, names_deep x.actions, rows_deep x.follower, rows_deep x.leader)

types_deep : (kind : Kind) (g : Game) → depth (type_entries kind g) ≤ 4
types_deep kind g = omega (arith, items_deep (type_entry kind) 3 (type_deep kind) g.types)

patrols_deep : (scale : Option ℤ) (patrols : ℤ) (targets types : Data) → depth targets ≤ 4 → depth types ≤ 4 → members_depth (patrols_table scale patrols targets types) ≤ 80
patrols_deep (Some scale) patrols targets types a b = omega (arith, a, b)
patrols_deep None patrols targets types a b = omega (arith, a, b)

resources_deep : (scale : Option ℤ) (targets schedules resources types : Data) → depth targets ≤ 4 → depth schedules ≤ 4 → depth resources ≤ 4 → depth types ≤ 4
    → members_depth (resources_table scale targets schedules resources types) ≤ 80
resources_deep (Some scale) targets schedules resources types a b c d = omega (arith, a, b, c, d)
resources_deep None targets schedules resources types a b c d = omega (arith, a, b, c, d)

matrix_deep : (rows types : Data) → depth rows ≤ 4 → depth types ≤ 4 → members_depth (matrix_table rows types) ≤ 80
matrix_deep rows types a b = omega (arith, a, b)

lists_deep : (key : List ℕ) (names : List (List ℕ)) (lists : List Named) → depth (listed (map (named_entry key names) lists)) ≤ 4
lists_deep key names lists = omega (arith, items_deep (named_entry key names) 3 (named_deep key names) lists)

goals_deep : (names : List (List ℕ)) → depth (names_data names) ≤ 4
goals_deep names = omega (arith, names_deep names)

game_deep : (g : Game) (kind : Kind) (patrols : Option ℕ) → members_depth (game_table_by kind patrols g) ≤ 80
game_deep g Security (Some n) = patrols_deep (declared_scale g) (pos n) (names_data g.goals) (type_entries Security g) (goals_deep g.goals) (types_deep Security g)
game_deep g Security None =
    resources_deep (declared_scale g) (names_data g.goals) (schedule_entries g) (resource_entries g) (type_entries Security g) (goals_deep g.goals)
    (lists_deep (codes "targets") g.goals g.schedules) (lists_deep (codes "schedules") (map (λ (x : Named). x.name) g.schedules) g.resources) (types_deep Security g)
game_deep g Matrix patrols = matrix_deep (names_data g.goals) (type_entries Matrix g) (goals_deep g.goals) (types_deep Matrix g)

-- files

game_file : (g : Game) → IsGame g → (bytes : List ℕ) × (game_of_bytes bytes ≡ Ok g)
unfolding game_of_bytes
game_file g h =
    let t = table_read (game_table g) (game_plain g g.kind g.patrols h) (game_deep g g.kind g.patrols) (ascending.games g) in
    let e = t.1 in
    (t.0, rw e (document_of_game g h))

pub accepted_files : AcceptedFiles
accepted_files g = (λ h. game_file g h, λ w. accepted w.0 g w.1)
