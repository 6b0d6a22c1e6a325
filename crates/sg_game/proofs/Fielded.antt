-- What it means that the fields of parts have no fault.
use Rattle.std.proofs.Common.{◌≡◌, ℕ, ◌^◌, true, ◌||◌, List, [], length, map, ℤ, pos, Option, Some, None, string_bytes, refl}
use Rattle.std.specs.Prelude.{nat_le, is_some, is_none}
use Rattle.std.specs.List.{All}
use Rattle.std.proofs.lemmas.Bool.{le-leb}
use Rattle.sg_model.specs.declared.kind.Kind.{Kind}
use Rattle.sg_model.specs.declared.kind.Kind.TheVariants.{Security, Matrix}
use Rattle.sg_model.specs.declared.fault.GameFault.{GameFault}
use Rattle.sg_model.specs.declared.fault.Place.{Place}
use Rattle.sg_model.specs.declared.fault.Place.TheVariants.{Document, Schedule, Resource, Attacker}
use Rattle.sg_model.specs.Limits.{IsCount, IsWithin, IsTable, AreLists}
use Rattle.sg_model.specs.Names.{AreNames}
use Rattle.sg_game.specs.declared.parts.Parts.{Parts}
use Rattle.sg_game.specs.declared.parts.TypeParts.{TypeParts}
use Rattle.sg_game.specs.Seen.{number_lists, texts, named_of}
use Rattle.sg_game.specs.Faults.{◌orelse◌, fault_unless, is_within, is_table, names_fault, entries_fault, lists_fault, tables_fault, pays_fault, type_fault, types_fault, goal_limit, goals_fault, option_fault, prior_limit, patrol_limit, type_limit, numbers_fault, fields_fault}
use Rattle.sg_model.specs.Places.{goal_place}
use Rattle.sg_game.proofs.Steps.{neither, both, holds, fine}
use Rattle.sg_game.proofs.Entered.{entered, enters, names_entered}
use Rattle.sg_game.proofs.Listed.{within, is-within, counted, table, is-table, named, names, listed, are-lists}

-- a type's actions and tables against so many rows
pub record HasTables (goals : ℕ) (x : TypeParts) : Type 0 where
  pub count : IsCount 1 64 (length x.actions.items)
  pub names : AreNames (texts x.actions.items)
  pub leader : IsTable goals (length x.actions.items) (number_lists x.leader.items)
  pub follower : IsTable goals (length x.actions.items) (number_lists x.follower.items)

-- what a type gets
abbrev pub HasPays : Kind → ℕ → TypeParts → Type 0
HasPays Security goals x = IsTable goals 4 (number_lists x.payoffs.items)
HasPays Matrix goals x = HasTables goals x

-- a type but for its name
pub record IsTyped (kind : Kind) (limit : ℤ) (goals : ℕ) (x : TypeParts) : Type 0 where
  pub prior : IsWithin (pos 1) limit x.prior
  pub pays : HasPays kind goals x

module _ (goals : ℕ) (place : Place) (x : TypeParts) where
  pub tables : tables_fault goals place x ≡ None → HasTables goals x
  unfolding tables_fault
  tables h =
      let n : ℕ = length x.actions.items in
      let a = fault_unless (nat_le 1 n) 6 place in
      let b = fault_unless (nat_le n 64) 10 place in
      let c = names_fault (λ n. place) x.actions.items in
      let d = fault_unless (is_table goals n x.leader.items) 9 place in
      let e = fault_unless (is_table goals n x.follower.items) 9 place in
      let p = neither (((a orelse b) orelse c) orelse d) e h in
      let q = neither ((a orelse b) orelse c) d p.0 in
      let r = neither (a orelse b) c q.0 in
      let s = neither a b r.0 in
      record {
        count = counted 1 64 n (holds (nat_le 1 n) 6 place s.0) (holds (nat_le n 64) 10 place s.1);
        names = named (λ n. place) x.actions.items r.1;
        leader = table goals n x.leader.items (holds (is_table goals n x.leader.items) 9 place q.1);
        follower = table goals n x.follower.items (holds (is_table goals n x.follower.items) 9 place p.1);
      }

  pub has-tables : HasTables goals x → tables_fault goals place x ≡ None
  unfolding tables_fault
  has-tables h =
      let n : ℕ = length x.actions.items in
      let a = fault_unless (nat_le 1 n) 6 place in
      let b = fault_unless (nat_le n 64) 10 place in
      let c = names_fault (λ n. place) x.actions.items in
      let d = fault_unless (is_table goals n x.leader.items) 9 place in
      let e = fault_unless (is_table goals n x.follower.items) 9 place in
      both (((a orelse b) orelse c) orelse d) e
      (both ((a orelse b) orelse c) d
      (both (a orelse b) c
      (both a b (fine (nat_le 1 n) 6 place (le-leb 1 n h.count.at_least)) (fine (nat_le n 64) 10 place (le-leb n 64 h.count.at_most)))
      (names (λ n. place) x.actions.items h.names))
      (fine (is_table goals n x.leader.items) 9 place (is-table goals n x.leader.items h.leader)))
      (fine (is_table goals n x.follower.items) 9 place (is-table goals n x.follower.items h.follower))

pays : (kind : Kind) (goals : ℕ) (place : Place) (x : TypeParts) → pays_fault kind goals place x ≡ None → HasPays kind goals x
pays Security goals place x h = table goals 4 x.payoffs.items (holds (is_table goals 4 x.payoffs.items) 9 place h)
pays Matrix goals place x h = tables goals place x h

has-pays : (kind : Kind) (goals : ℕ) (place : Place) (x : TypeParts) → HasPays kind goals x → pays_fault kind goals place x ≡ None
has-pays Security goals place x h = fine (is_table goals 4 x.payoffs.items) 9 place (is-table goals 4 x.payoffs.items h)
has-pays Matrix goals place x h = has-tables goals place x h

module _ (kind : Kind) (limit : ℤ) (goals : ℕ) where
  typed : (place : Place) (x : TypeParts) → type_fault kind limit goals place x ≡ None → IsTyped kind limit goals x
  typed place x h =
      let p = neither (fault_unless (is_within (pos 1) limit x.prior) 9 place) (pays_fault kind goals place x) h in
      record { prior = within (pos 1) limit x.prior (holds (is_within (pos 1) limit x.prior) 9 place p.0); pays = pays kind goals place x p.1 }

  is-typed : (place : Place) (x : TypeParts) → IsTyped kind limit goals x → type_fault kind limit goals place x ≡ None
  is-typed place x h =
      both (fault_unless (is_within (pos 1) limit x.prior) 9 place) (pays_fault kind goals place x)
      (fine (is_within (pos 1) limit x.prior) 9 place (is-within (pos 1) limit x.prior h.prior)) (has-pays kind goals place x h.pays)

-- there is no number, or it is in range
abbrev pub IsOptionWithin : ℤ → ℤ → Option ℤ → Type 0
IsOptionWithin low high None = Unit {0}
IsOptionWithin low high (Some z) = IsWithin low high z

option_within : (low high : ℤ) (o : Option ℤ) → option_fault low high o ≡ None → IsOptionWithin low high o
option_within low high None h = tt
option_within low high (Some z) h = within low high z (holds (is_within low high z) 9 Document h)

is-option_within : (low high : ℤ) (o : Option ℤ) → IsOptionWithin low high o → option_fault low high o ≡ None
is-option_within low high None h = refl
is-option_within low high (Some z) h = fine (is_within low high z) 9 Document (is-within low high z h)

-- fields that break no rule of their own
pub record AreFielded (p : Parts) : Type 0 where
  pub patrolled : (is_none p.scale || is_some p.patrols) ≡ true
  pub goal_count : IsCount 1 (goal_limit p.kind (is_some p.scale)) (length p.goals.items)
  pub goals : AreNames (texts p.goals.items)
  pub scale : IsOptionWithin (pos 1) (pos (2 ^ 32)) p.scale
  pub patrols : IsOptionWithin (pos 0) (patrol_limit (is_some p.scale)) p.patrols
  pub schedules : AreLists (length p.goals.items) 500 200 (map named_of p.schedules.items)
  pub resources : AreLists (length p.schedules.items) 32 500 (map named_of p.resources.items)
  pub type_count : IsCount 1 (type_limit (is_some p.scale)) (length p.types.items)
  pub type_names : AreNames (map (λ (x : TypeParts). string_bytes x.name) p.types.items)
  pub types : All (IsTyped p.kind (prior_limit (is_some p.scale)) (length p.goals.items)) p.types.items

module _ (p : Parts) where
  abbrev type_rest : Place → TypeParts → Option GameFault
  type_rest = type_fault p.kind (prior_limit (is_some p.scale)) (length p.goals.items)

  abbrev type_holds : TypeParts → Type 0
  type_holds = IsTyped p.kind (prior_limit (is_some p.scale)) (length p.goals.items)

  abbrev type_name : TypeParts → List ℕ
  type_name x = string_bytes x.name

  -- fields with no fault break no rule
  pub fielded : fields_fault p ≡ None → AreFielded p
  unfolding fields_fault goals_fault numbers_fault types_fault
  fielded h =
      let n : ℕ = length p.goals.items in
      let limit : ℕ = goal_limit p.kind (is_some p.scale) in
      let a = fault_unless (is_none p.scale || is_some p.patrols) 3 Document in
      let b0 = fault_unless (nat_le 1 n) 6 Document in
      let b1 = fault_unless (nat_le n limit) 10 Document in
      let b2 = names_fault (goal_place p.kind) p.goals.items in
      let c0 = option_fault (pos 1) (pos (2 ^ 32)) p.scale in
      let c1 = option_fault (pos 0) (patrol_limit (is_some p.scale)) p.patrols in
      let d = lists_fault n 500 200 Schedule p.schedules.items in
      let e = lists_fault (length p.schedules.items) 32 500 Resource p.resources.items in
      let m : ℕ = length p.types.items in
      let f0 = fault_unless (nat_le 1 m) 6 Document in
      let f1 = fault_unless (nat_le m (type_limit (is_some p.scale))) 10 Document in
      let f2 = entries_fault type_name type_rest Attacker [] p.types.items in
      let b = (b0 orelse b1) orelse b2 in
      let c = c0 orelse c1 in
      let f = (f0 orelse f1) orelse f2 in
      let h6 = neither ((((a orelse b) orelse c) orelse d) orelse e) f h in
      let h5 = neither (((a orelse b) orelse c) orelse d) e h6.0 in
      let h4 = neither ((a orelse b) orelse c) d h5.0 in
      let h3 = neither (a orelse b) c h4.0 in
      let h2 = neither a b h3.0 in
      let hb = neither (b0 orelse b1) b2 h2.1 in
      let hb0 = neither b0 b1 hb.0 in
      let hc = neither c0 c1 h3.1 in
      let hf = neither (f0 orelse f1) f2 h6.1 in
      let hf0 = neither f0 f1 hf.0 in
      let all = entered type_name type_rest Attacker type_holds (typed p.kind (prior_limit (is_some p.scale)) n) [] p.types.items hf.1 in
      record {
        patrolled = holds (is_none p.scale || is_some p.patrols) 3 Document h2.0;
        goal_count = counted 1 limit n (holds (nat_le 1 n) 6 Document hb0.0) (holds (nat_le n limit) 10 Document hb0.1);
        goals = named (goal_place p.kind) p.goals.items hb.1;
        scale = option_within (pos 1) (pos (2 ^ 32)) p.scale hc.0;
        patrols = option_within (pos 0) (patrol_limit (is_some p.scale)) p.patrols hc.1;
        schedules = listed n 500 200 Schedule p.schedules.items h4.1;
        resources = listed (length p.schedules.items) 32 500 Resource p.resources.items h5.1;
        type_count = counted 1 (type_limit (is_some p.scale)) m (holds (nat_le 1 m) 6 Document hf0.0) (holds (nat_le m (type_limit (is_some p.scale))) 10 Document hf0.1);
        type_names = record { spelled = all.spelled; distinct = all.fresh.distinct };
        types = all.each;
      }

  -- fields that break no rule have no fault
  pub are-fielded : AreFielded p → fields_fault p ≡ None
  unfolding fields_fault goals_fault numbers_fault types_fault
  are-fielded h =
      let n : ℕ = length p.goals.items in
      let limit : ℕ = goal_limit p.kind (is_some p.scale) in
      let a = fault_unless (is_none p.scale || is_some p.patrols) 3 Document in
      let b0 = fault_unless (nat_le 1 n) 6 Document in
      let b1 = fault_unless (nat_le n limit) 10 Document in
      let b2 = names_fault (goal_place p.kind) p.goals.items in
      let c0 = option_fault (pos 1) (pos (2 ^ 32)) p.scale in
      let c1 = option_fault (pos 0) (patrol_limit (is_some p.scale)) p.patrols in
      let d = lists_fault n 500 200 Schedule p.schedules.items in
      let e = lists_fault (length p.schedules.items) 32 500 Resource p.resources.items in
      let m : ℕ = length p.types.items in
      let f0 = fault_unless (nat_le 1 m) 6 Document in
      let f1 = fault_unless (nat_le m (type_limit (is_some p.scale))) 10 Document in
      let f2 = entries_fault type_name type_rest Attacker [] p.types.items in
      let b = (b0 orelse b1) orelse b2 in
      let c = c0 orelse c1 in
      let f = (f0 orelse f1) orelse f2 in
      both ((((a orelse b) orelse c) orelse d) orelse e) f
      (both (((a orelse b) orelse c) orelse d) e
      (both ((a orelse b) orelse c) d
      (both (a orelse b) c
      (both a b (fine (is_none p.scale || is_some p.patrols) 3 Document h.patrolled)
      (both (b0 orelse b1) b2 (both b0 b1 (fine (nat_le 1 n) 6 Document (le-leb 1 n h.goal_count.at_least)) (fine (nat_le n limit) 10 Document (le-leb n limit h.goal_count.at_most)))
      (names (goal_place p.kind) p.goals.items h.goals)))
      (both c0 c1 (is-option_within (pos 1) (pos (2 ^ 32)) p.scale h.scale) (is-option_within (pos 0) (patrol_limit (is_some p.scale)) p.patrols h.patrols)))
      (are-lists n 500 200 Schedule p.schedules.items h.schedules))
      (are-lists (length p.schedules.items) 32 500 Resource p.resources.items h.resources))
      (both (f0 orelse f1) f2
      (both f0 f1 (fine (nat_le 1 m) 6 Document (le-leb 1 m h.type_count.at_least)) (fine (nat_le m (type_limit (is_some p.scale))) 10 Document (le-leb m (type_limit (is_some p.scale)) h.type_count.at_most)))
      (enters type_name type_rest Attacker type_holds (is-typed p.kind (prior_limit (is_some p.scale)) n) [] p.types.items
      (names_entered type_name type_rest Attacker type_holds p.types.items h.type_names h.types)))
