-- A game that keeps every promise is the game of the document that spells it.
use Rattle.std.proofs.Common.{◌≡◌, ◌∙◌, ℕ, ◌≤◌, ◌^◌, Bool, true, false, ◌&&◌, cond, List, [], ◌∷◌, length, map, get_or, ℤ, pos, ◌≤ℤ◌, Option, Some, None, Ok, refl, sym, ap, arith}
use Rattle.std.specs.Prelude.{codes, int_lt, int_rem, is_some, nat_eq, nat_le, unwrap_or}
use Rattle.std.specs.List.{All, list_all}
use Rattle.std.specs.Ordering.{int_eq}
use Rattle.std.proofs.lemmas.Bool.{and_from, eq-eqb, le-leb}
use Rattle.std.proofs.lemmas.Bool.Decides.{Decides-eqb, Decides-int_eq}
use Rattle.std.proofs.lemmas.Int.{ints}
use Rattle.std.proofs.lemmas.List.{length-map}
use Rattle.std.proofs.lemmas.List.Elements.{All-nil, All-cons, All-weaker}
use Rattle.std.proofs.lemmas.List.Sums.{list_all-from_AllPass}
use Rattle.sg_model.specs.declared.kind.Kind.{Kind}
use Rattle.sg_model.specs.declared.kind.Kind.TheVariants.{Security, Matrix}
use Rattle.sg_model.specs.declared.fault.Place.{Place}
use Rattle.sg_model.specs.declared.fault.Place.TheVariants as place_of
use Rattle.sg_model.specs.declared.fault.GameFault.{GameFault}
use Rattle.sg_model.specs.Games.{Attacker, Game, Named, Payoff, payoff_of}
use Rattle.sg_model.specs.Limits.{AreLists, AreMembers, IsCount, IsGame, IsMatrixGame, IsMatrixType, IsPay, IsPayoff, IsSecurityGame, IsSecurityType, IsTable, IsWithin, is_scaled, program_rows}
use Rattle.sg_model.specs.Names.{AreNames}
use Rattle.sg_model.specs.Origami.{IsScaled, gap}
use Rattle.sg_game.specs.Counts.{four}
use Rattle.sg_game.specs.Faults.{◌orelse◌, fault_unless, each_member_fault, entries_fault, goal_limit, is_pay, is_scaled_game, is_scaled_payoff, is_within, prior_limit, type_limit, whole_fault}
use Rattle.sg_game.proofs.Steps.{both, fine}
use Rattle.sg_game.proofs.Fresh.{fresh_first}
use Rattle.sg_game.proofs.Entered.{enters, knows, names_entered}
use Rattle.sg_game.proofs.Listed.{are-pays, is-within}
use Rattle.sg_format.specs.Lists.{named_lists_at, names_at}
use Rattle.sg_format.specs.Types.{matrix_types_at, security_types_at}
use Rattle.sg_format.specs.GameFiles.{game_of_table}
use Rattle.sg_format.specs.FaultExamples.{listed}
use Rattle.sg_format.proofs.Accepted.{game_of_table-game}
use Rattle.sg_document_laws.specs.Tables.{names_data, patrols_table, resources_table, matrix_table}
use Rattle.sg_document_laws.specs.Documents.{game_table, named_entry, resource_entries, schedule_entries, type_entries, type_entry}
use Rattle.sg_document_laws.specs.Acceptance.{AcceptedGames, DocumentOfGame}
use Rattle.sg_document_laws.specs.Orders.{told}
use Rattle.sg_document_laws.proofs.Listed.{all_any, count_fault, map_map, map_same, names_at-array, no_more}
use Rattle.sg_document_laws.proofs.Members.{IsMembersKey, all_members_fault, lists_told, schedules_key, targets_key}
use Rattle.sg_document_laws.proofs.Typed.{all_types_fault, are_rows, matrix_form, matrix_types_told, prior_fault, security_form, security_types_told}
use Rattle.sg_document_laws.proofs.Games.{matrix_made, matrix_told, patrols_fault, patrols_told, resources_made, resources_told, scale_fault}

-- names

count_fine : (limit : ℕ) (place : Place) (n : ℕ) → IsCount 1 limit n → count_fault limit place n ≡ None
count_fine limit place n h =
    both (fault_unless (nat_le 1 n) 6 place) (fault_unless (nat_le n limit) 10 place) (fine (nat_le 1 n) 6 place (le-leb 1 n h.at_least)) (fine (nat_le n limit) 10 place (le-leb n limit h.at_most))

names_fine : {X : Type 0} (name : X → List ℕ) (place : ℕ → Place) (xs : List X) → AreNames (map name xs) → entries_fault name no_more place [] xs ≡ None
names_fine name place xs h = enters name no_more place (λ x. Unit {0}) (λ here x u. refl) [] xs (names_entered name no_more place (λ x. Unit {0}) xs h (all_any xs))

-- a name is itself
abbrev itself : List ℕ → List ℕ
itself name = name

names_read : (whole : Place) (place : ℕ → Place) (limit : ℕ) (names : List (List ℕ)) → AreNames names → IsCount 1 limit (length names) → names_at whole place limit (names_data names) ≡ told None names
names_read whole place limit names h count =
    let own : AreNames (map itself names) = rw (map_same names) h in
    let e = both (count_fault limit whole (length names)) (entries_fault itself no_more place [] names) (count_fine limit whole (length names) count) (names_fine itself place names own) in
    let read = names_at-array itself whole place limit names in
    let plain = rw (map_same names) at read in
    plain ∙ ap (λ f. told f names) e

-- schedules and resources

members_fine : (count limit : ℕ) (place : Place) (ms : List ℕ) → AreMembers count limit ms → all_members_fault count limit place ms ≡ None
members_fine count limit place ms h =
    both (count_fault limit place (length ms)) (each_member_fault count place [] ms) (count_fine limit place (length ms) h.size)
    (knows count place [] ms (record { known = h.known; fresh = fresh_first nat_eq Decides-eqb ms h.distinct }))

lists_read : (key : List ℕ) → IsMembersKey key → (names : List (List ℕ)) → AreNames names → (count : ℕ) → length names ≡ count → (place : ℕ → Place) (limit members_limit : ℕ) (lists : List Named)
    → AreLists count limit members_limit lists → named_lists_at place key names limit members_limit (listed (map (named_entry key names) lists)) ≡ told None lists
lists_read key is_key names own count many place limit members_limit lists h =
    let name : Named → List ℕ = λ x. x.name in
    let members : Named → List ℕ = λ x. x.members in
    let rest : Place → Named → Option GameFault = λ here x. all_members_fault count members_limit here x.members in
    let few = fault_unless (nat_le (length lists) limit) 10 place_of.Document in
    let each = enters name rest place (λ (x : Named). AreMembers count members_limit x.members) (λ here x m. members_fine count members_limit here x.members m) [] lists
    (names_entered name rest place (λ (x : Named). AreMembers count members_limit x.members) lists h.names h.members) in
    let e = both few (entries_fault name rest place [] lists) (fine (nat_le (length lists) limit) 10 place_of.Document (le-leb (length lists) limit h.few)) each in
    let read = lists_told name members key is_key names own count many place limit members_limit lists in
    read ∙ ap (λ f. told f (map (λ (x : Named). x) lists)) e ∙ ap (λ xs. told None xs) (map_same lists)

-- payoffs

rows_fine : {V : Type 0} (items : V → List ℤ) (m n : ℕ) (lists : List V) → length lists ≡ m → All (λ v. length (items v) ≡ n) lists → All (λ v. All IsPay (items v)) lists → are_rows items m n lists ≡ true
rows_fine {V} items m n lists e columns pays =
    let test : V → Bool = λ v. nat_eq (length (items v)) n && list_all is_pay (items v) in
    and_from (nat_eq (length lists) m) (list_all test lists) (eq-eqb (length lists) m e)
    (list_all-from_AllPass test lists (λ i d lt.
    and_from (nat_eq (length (items (get_or lists i d))) n) (list_all is_pay (items (get_or lists i d)))
    (eq-eqb (length (items (get_or lists i d))) n (columns i d lt)) (are-pays (items (get_or lists i d)) (pays i d lt))))

pub four_pays : (p : Payoff) → IsPayoff p → All IsPay (four p)
four_pays p h =
    All-cons IsPay p.dc (p.du ∷ p.ac ∷ p.au ∷ []) h.dc (All-cons IsPay p.du (p.ac ∷ p.au ∷ []) h.du (All-cons IsPay p.ac (p.au ∷ []) h.ac (All-cons IsPay p.au [] h.au (All-nil IsPay))))

four_back : (payoffs : List Payoff) → map payoff_of (map four payoffs) ≡ payoffs
four_back payoffs = map_map payoff_of four payoffs ∙ map_same payoffs

prior_fine : (limit : ℤ) (place : Place) (prior : ℤ) → IsWithin (pos 1) limit prior → prior_fault limit place prior ≡ None
prior_fine limit place prior h = fine (is_within (pos 1) limit prior) 9 place (is-within (pos 1) limit prior h)

-- the name of a type
abbrev type_name : Attacker → List ℕ
type_name x = x.name

-- a list of types that is read
types_fine : (rest : Place → Attacker → Option GameFault) (P : Attacker → Type 0) → ((here : Place) (x : Attacker) → P x → rest here x ≡ None) → (limit : ℕ) (xs : List Attacker)
    → IsCount 1 limit (length xs) → AreNames (map type_name xs) → All P xs → all_types_fault type_name rest limit xs ≡ None
types_fine rest P complete limit xs count names each =
    both (count_fault limit place_of.Document (length xs)) (entries_fault type_name rest place_of.Attacker [] xs) (count_fine limit place_of.Document (length xs) count)
    (enters type_name rest place_of.Attacker P complete [] xs (names_entered type_name rest place_of.Attacker P xs names each))

-- types in security form

-- a type in security form whose prior is within a limit
record IsPlain (limit : ℤ) (targets : ℕ) (x : Attacker) : Type 0 where
  prior : IsWithin (pos 1) limit x.prior
  pays : IsSecurityType targets x

same_security : (name : List ℕ) (prior : ℤ) (read payoffs : List Payoff) (actions : List (List ℕ)) (leader follower : List (List ℤ)) → read ≡ payoffs → actions ≡ [] → leader ≡ [] → follower ≡ []
    → (let x : Attacker = record { name = name; prior = prior; payoffs = read; actions = []; leader = []; follower = [] } in x)
    ≡ record { name = name; prior = prior; payoffs = payoffs; actions = actions; leader = leader; follower = follower }
same_security name prior read payoffs actions leader follower e a l f = rw (e, a, l, f) refl

security_read : (scaled : Bool) (targets : ℕ) (xs : List Attacker) → IsCount 1 (type_limit scaled) (length xs) → AreNames (map type_name xs) → All (IsPlain (prior_limit scaled) targets) xs
    → security_types_at scaled targets (listed (map (type_entry Security) xs)) ≡ told None xs
security_read scaled targets xs count names each =
    let P : Attacker → Type 0 = IsPlain (prior_limit scaled) targets in
    let rest : Place → Attacker → Option GameFault = λ here x. prior_fault (prior_limit scaled) here x.prior orelse fault_unless (are_rows four targets 4 x.payoffs) 9 here in
    let complete : (here : Place) (x : Attacker) → P x → rest here x ≡ None = λ here x h.
    both (prior_fault (prior_limit scaled) here x.prior) (fault_unless (are_rows four targets 4 x.payoffs) 9 here) (prior_fine (prior_limit scaled) here x.prior h.prior)
    (fine (are_rows four targets 4 x.payoffs) 9 here (rows_fine four targets 4 x.payoffs h.pays.one_each (λ i d lt. refl) (λ i d lt. four_pays (get_or x.payoffs i d) (h.pays.pays i d lt)))) in
    let formed : (x : Attacker) → P x → security_form x.name x.prior (map four x.payoffs) ≡ x = λ x h.
    same_security x.name x.prior (map payoff_of (map four x.payoffs)) x.payoffs x.actions x.leader x.follower (four_back x.payoffs) h.pays.no_actions h.pays.no_leader h.pays.no_follower in
    let read = security_types_told type_name (λ (x : Attacker). x.prior) (λ (x : Attacker). x.payoffs) four (λ x. x) P (λ x. refl) formed scaled targets xs each in
    read ∙ ap (λ f. told f (map (λ (x : Attacker). x) xs)) (types_fine rest P complete (type_limit scaled) xs count names each) ∙ ap (λ ys. told None ys) (map_same xs)

-- types in matrix form

-- a row is itself
abbrev own_row : List ℤ → List ℤ
own_row row = row

same_matrix : (name : List ℕ) (prior : ℤ) (payoffs : List Payoff) (acts actions : List (List ℕ)) (leads leader follows follower : List (List ℤ)) → payoffs ≡ [] → acts ≡ actions → leads ≡ leader → follows ≡ follower
    → matrix_form name prior acts leads follows ≡ record { name = name; prior = prior; payoffs = payoffs; actions = actions; leader = leader; follower = follower }
same_matrix name prior payoffs acts actions leads leader follows follower e a l f = rw (e, a, l, f) refl

table_fine : (m n : ℕ) (table : List (List ℤ)) → IsTable m n table → are_rows own_row m n table ≡ true
table_fine m n table h = rows_fine own_row m n table h.rows h.columns h.pays

spelled_matrix : (xs : List Attacker) → map (type_entry Matrix) xs
    ≡ map (λ (x : Attacker). type_entry Matrix (record x { actions = map itself x.actions; leader = map own_row x.leader; follower = map own_row x.follower })) xs
spelled_matrix [] = refl
spelled_matrix (x ∷ xs) = rw (map_same x.actions, map_same x.leader, map_same x.follower, spelled_matrix xs) refl

matrix_read : (goals : ℕ) (xs : List Attacker) → IsCount 1 8 (length xs) → AreNames (map type_name xs) → All (IsMatrixType goals) xs
    → matrix_types_at goals (listed (map (type_entry Matrix) xs)) ≡ told None xs
matrix_read goals xs count names each =
    let P : Attacker → Type 0 = IsMatrixType goals in
    let rest : Place → Attacker → Option GameFault = λ here x. prior_fault (prior_limit false) here x.prior orelse (
    count_fault 64 here (length x.actions) orelse entries_fault itself no_more (λ k. here) [] x.actions
    orelse fault_unless (are_rows own_row goals (length x.actions) x.leader) 9 here orelse fault_unless (are_rows own_row goals (length x.actions) x.follower) 9 here) in
    let complete : (here : Place) (x : Attacker) → P x → rest here x ≡ None = λ here x h.
    let n : ℕ = length x.actions in
    let a = count_fault 64 here n in
    let b = entries_fault itself no_more (λ k. here) [] x.actions in
    let c = fault_unless (are_rows own_row goals n x.leader) 9 here in
    let d = fault_unless (are_rows own_row goals n x.follower) 9 here in
    let own : AreNames (map itself x.actions) = rw (map_same x.actions) h.action_names in
    both (prior_fault (prior_limit false) here x.prior) (((a orelse b) orelse c) orelse d) (prior_fine (prior_limit false) here x.prior h.prior)
    (both ((a orelse b) orelse c) d
    (both (a orelse b) c
    (both a b (count_fine 64 here n h.action_count) (names_fine itself (λ k. here) x.actions own))
    (fine (are_rows own_row goals n x.leader) 9 here (table_fine goals n x.leader h.leader)))
    (fine (are_rows own_row goals n x.follower) 9 here (table_fine goals n x.follower h.follower))) in
    let formed : (x : Attacker) → P x → matrix_form x.name x.prior (map itself x.actions) (map own_row x.leader) (map own_row x.follower) ≡ x = λ x h.
    same_matrix x.name x.prior x.payoffs (map itself x.actions) x.actions (map own_row x.leader) x.leader (map own_row x.follower) x.follower h.no_payoffs
    (map_same x.actions) (map_same x.leader) (map_same x.follower) in
    let read = matrix_types_told type_name (λ (x : Attacker). x.prior) (λ (x : Attacker). x.actions) itself (λ (x : Attacker). x.leader) (λ (x : Attacker). x.follower) own_row (λ x. x) P (λ x. refl) formed goals xs each in
    ap (λ values. matrix_types_at goals (listed values)) (spelled_matrix xs)
    ∙ read ∙ ap (λ f. told f (map (λ (x : Attacker). x) xs)) (types_fine rest P complete 8 xs count names each) ∙ ap (λ ys. told None ys) (map_same xs)

-- limits that depend on the scale

few_types : (scaled : Bool) (n : ℕ) → (scaled ≡ true → n ≡ 1) → IsCount 1 8 n → IsCount 1 (type_limit scaled) n
few_types true n one h = record { at_least = h.at_least; at_most = omega (arith, one refl) }
few_types false n one h = h

low_priors : (scaled : Bool) (targets : ℕ) (xs : List Attacker) → (scaled ≡ true → All (λ (x : Attacker). x.prior ≡ pos 1) xs) → All (IsSecurityType targets) xs → All (IsPlain (prior_limit scaled) targets) xs
low_priors true targets xs one h = λ i d lt. record { prior = (let e = one refl i d lt in record { at_least = omega (arith, ints, e); at_most = omega (arith, ints, e) }); pays = h i d lt }
low_priors false targets xs one h = λ i d lt. record { prior = (h i d lt).prior; pays = h i d lt }

patrols_fine : (scaled : Bool) (n : ℕ) → n ≤ cond scaled 200 32 → patrols_fault scaled (pos n) ≡ None
patrols_fine true n h = fine (is_within (pos 0) (pos 200) (pos n)) 9 place_of.Document (is-within (pos 0) (pos 200) (pos n) (record { at_least = omega (arith, ints); at_most = omega (arith, ints, h) }))
patrols_fine false n h = fine (is_within (pos 0) (pos 32) (pos n)) 9 place_of.Document (is-within (pos 0) (pos 32) (pos n) (record { at_least = omega (arith, ints); at_most = omega (arith, ints, h) }))

payoff_fits : (scale : ℤ) (p : Payoff) → IsScaled scale p → is_scaled_payoff scale p ≡ true
payoff_fits scale p h =
    let a : int_lt p.du p.dc ≡ true = sym (omega (arith, ints, h.defender_gains)) in
    let b : int_lt p.ac p.au ≡ true = sym (omega (arith, ints, h.attacker_loses)) in
    and_from (int_lt p.du p.dc && int_lt p.ac p.au) (int_eq (int_rem scale (gap p)) (pos 0)) (and_from (int_lt p.du p.dc) (int_lt p.ac p.au) a b) ((Decides-int_eq (int_rem scale (gap p)) (pos 0)).1 h.divides)

whole_fine : (scaled : Bool) (g : Game) → (scaled ≡ true → All (λ (x : Attacker). All (IsScaled g.scale) x.payoffs) g.types) → (scaled ≡ false → program_rows g ≤ 1536) → whole_fault scaled g ≡ None
whole_fine true g fits few =
    let each : Attacker → Bool = λ x. list_all (is_scaled_payoff g.scale) x.payoffs in
    fine (is_scaled_game g) 11 (place_of.Attacker 1)
    (list_all-from_AllPass each g.types (λ i d lt.
    list_all-from_AllPass (is_scaled_payoff g.scale) (get_or g.types i d).payoffs
    (All-weaker (IsScaled g.scale) (λ (p : Payoff). is_scaled_payoff g.scale p ≡ true) (payoff_fits g.scale) (get_or g.types i d).payoffs (fits refl i d lt))))
whole_fine false g fits few = fine (nat_le (program_rows g) 1536) 10 place_of.Document (le-leb (program_rows g) 1536 (few refl))

-- the scale that is declared

-- the scale where it is declared
abbrev declared : Bool → ℤ → Option ℤ
declared scaled z = cond scaled (Some z) None

-- what is declared says the scale, and is within its range
record IsDeclared (scaled : Bool) (z : ℤ) : Type 0 where
  is : is_some (declared scaled z) ≡ scaled
  value : unwrap_or (declared scaled z) (pos 0) ≡ z
  fault : scale_fault (declared scaled z) ≡ None

is_declared : (scaled : Bool) (z : ℤ) → int_lt (pos 0) z ≡ scaled → IsWithin (pos 0) (pos (2 ^ 32)) z → IsDeclared scaled z
is_declared true z e h = record {
  is = refl;
  value = refl;
  fault = fine (is_within (pos 1) (pos (2 ^ 32)) z) 9 place_of.Document (is-within (pos 1) (pos (2 ^ 32)) z (record { at_least = omega (arith, ints, e); at_most = h.at_most }));
}
is_declared false z e h = record { is = refl; value = omega (arith, ints, e, h.at_least); fault = refl }

-- whole games

same_patrols : (scale own : ℤ) (n : ℕ) (goals : List (List ℕ)) (schedules resources : List Named) (types : List Attacker) → scale ≡ own → schedules ≡ [] → resources ≡ []
    → (let g : Game = record { kind = Security; scale = scale; patrols = Some n; goals = goals; schedules = []; resources = []; types = types } in g)
    ≡ record { kind = Security; scale = own; patrols = Some n; goals = goals; schedules = schedules; resources = resources; types = types }
same_patrols scale own n goals schedules resources types e a b = rw (e, a, b) refl

same_matrix_game : (scale : ℤ) (patrols : Option ℕ) (goals : List (List ℕ)) (schedules resources : List Named) (types : List Attacker) → scale ≡ pos 0 → patrols ≡ None → schedules ≡ [] → resources ≡ []
    → matrix_made goals types ≡ record { kind = Matrix; scale = scale; patrols = patrols; goals = goals; schedules = schedules; resources = resources; types = types }
same_matrix_game scale patrols goals schedules resources types e p a b = rw (e, p, a, b) refl

module _ (g : Game) where
  -- the game with these patrols
  abbrev with_patrols : ℕ → Game
  with_patrols n = record g { kind = Security; patrols = Some n }

  is_some_scaled : (scaled : Bool) → is_scaled g ≡ scaled → scaled ≡ true → pos 1 ≤ℤ g.scale
  is_some_scaled scaled e on = let yes : int_lt (pos 0) g.scale ≡ true = e ∙ on in omega (arith, ints, yes)

  is_zero_scale : (scaled : Bool) → is_scaled g ≡ scaled → IsWithin (pos 0) (pos (2 ^ 32)) g.scale → scaled ≡ false → g.scale ≡ pos 0
  is_zero_scale scaled e h off = let no_scale : int_lt (pos 0) g.scale ≡ false = e ∙ off in omega (arith, ints, no_scale, h.at_least)

  by_patrols : (scaled : Bool) → is_scaled g ≡ scaled → (n : ℕ) → IsSecurityGame (with_patrols n) → game_of_table (patrols_table (declared scaled g.scale) (pos n) (names_data g.goals) (type_entries Security g)) ≡ Ok (with_patrols n)
  by_patrols scaled e n s =
      let d = is_declared scaled g.scale e s.scale_range in
      let q : Game = with_patrols n in
      let o : Option ℤ = declared scaled g.scale in
      let limit : ℕ = cond scaled 10000 200 in
      let count : IsCount 1 limit (length g.goals) = rw e at s.target_count in
      let few : n ≤ cond scaled 200 32 = rw e at s.defended.few in
      let listing = names_read place_of.Document place_of.Target limit g.goals s.targets count in
      let people = security_read scaled (length g.goals) g.types (few_types scaled (length g.types) (λ on. (s.scaled (is_some_scaled scaled e on)).one_type) s.types.count) s.types.names
      (low_priors scaled (length g.goals) g.types (λ on. (s.scaled (is_some_scaled scaled e on)).prior_one) s.each_type) in
      let same = same_patrols (unwrap_or o (pos 0)) g.scale n g.goals g.schedules g.resources g.types d.value s.defended.no_schedules s.defended.no_resources in
      let first : names_at place_of.Document place_of.Target (goal_limit Security (is_some o)) (names_data g.goals) ≡ told None g.goals = rw d.is listing in
      let fourth : security_types_at (is_some o) (length g.goals) (type_entries Security g) ≡ told None g.types = rw d.is people in
      let read = patrols_told o (pos n) (names_data g.goals) (type_entries Security g) None None g.goals g.types q first fourth same in
      let patrols : patrols_fault (is_some o) (pos n) ≡ None = rw d.is (patrols_fine scaled n few) in
      let whole : whole_fault (is_some o) q ≡ None = rw d.is (whole_fine scaled q (λ on. (s.scaled (is_some_scaled scaled e on)).targets) (λ off. s.few_rows (is_zero_scale scaled e s.scale_range off))) in
      read ∙ ap (λ f. told f q) (both (scale_fault o) (patrols_fault (is_some o) (pos n) orelse whole_fault (is_some o) q) d.fault (both (patrols_fault (is_some o) (pos n)) (whole_fault (is_some o) q) patrols whole))

  -- the game without patrols
  abbrev without_patrols : Game
  without_patrols = record g { kind = Security; patrols = None }

  by_resources : (scaled : Bool) → is_scaled g ≡ scaled → IsSecurityGame without_patrols
      → game_of_table (resources_table (declared scaled g.scale) (names_data g.goals) (schedule_entries g) (resource_entries g) (type_entries Security g)) ≡ Ok without_patrols
  by_resources true e s = absurd ((s.scaled (is_some_scaled true e refl)).identical refl)
  by_resources false e s =
      let zero : g.scale ≡ pos 0 = is_zero_scale false e s.scale_range refl in
      let q : Game = resources_made g.goals g.schedules g.resources g.types in
      let count : IsCount 1 200 (length g.goals) = rw e at s.target_count in
      let listing = names_read place_of.Document place_of.Target 200 g.goals s.targets count in
      let held = lists_read (codes "targets") targets_key g.goals s.targets (length g.goals) refl place_of.Schedule 500 200 g.schedules s.defended.schedules in
      let names : List (List ℕ) = map (λ (x : Named). x.name) g.schedules in
      let hands = lists_read (codes "schedules") schedules_key names s.defended.schedules.names (length g.schedules) (length-map g.schedules (λ (x : Named). x.name)) place_of.Resource 32 500 g.resources s.defended.resources in
      let people = security_read false (length g.goals) g.types s.types.count s.types.names (low_priors false (length g.goals) g.types (λ on. absurd (cc)) s.each_type) in
      let read = resources_told (names_data g.goals) (schedule_entries g) (resource_entries g) (type_entries Security g) None None None None g.goals g.schedules g.resources g.types listing (λ u. held) (λ u. hands) people in
      let whole : whole_fault false q ≡ None = whole_fine false q (λ on. absurd (cc)) (λ off. s.few_rows zero) in
      let same : q ≡ without_patrols = ap (λ z. record q { scale = z }) (sym zero) in
      read ∙ ap (λ f. told f q) whole ∙ ap (λ y. Ok y) same

  -- the game in matrix form
  abbrev in_matrix : Option ℕ → Game
  in_matrix patrols = record g { kind = Matrix; patrols = patrols }

  by_matrix : (patrols : Option ℕ) → IsMatrixGame (in_matrix patrols) → game_of_table (matrix_table (names_data g.goals) (type_entries Matrix g)) ≡ Ok (in_matrix patrols)
  by_matrix patrols m =
      let q : Game = in_matrix patrols in
      let listing = names_read place_of.Document place_of.Row 4096 g.goals m.rows m.row_count in
      let people = matrix_read (length g.goals) g.types m.types.count m.types.names m.each_type in
      let same = same_matrix_game g.scale patrols g.goals g.schedules g.resources g.types m.no_scale m.no_patrols m.no_schedules m.no_resources in
      let read = matrix_told (names_data g.goals) (type_entries Matrix g) None None g.goals g.types q listing people same in
      read ∙ ap (λ f. told f q) (whole_fine false q (λ on. absurd (cc)) (λ off. m.few_rows))

by_form : (g : Game) (kind : Kind) (patrols : Option ℕ) → IsGame (record g { kind = kind; patrols = patrols }) → game_of_table (game_table (record g { kind = kind; patrols = patrols })) ≡ Ok (record g { kind = kind; patrols = patrols })
by_form g Security (Some n) h = by_patrols g (is_scaled g) refl n h
by_form g Security None h = by_resources g (is_scaled g) refl h
by_form g Matrix patrols h = by_matrix g patrols h

pub document_of_game : DocumentOfGame
document_of_game g h = by_form g g.kind g.patrols h

pub accepted_games : AcceptedGames
accepted_games g = (λ h. (game_table g, document_of_game g h), λ w. game_of_table-game w.0 g w.1)
