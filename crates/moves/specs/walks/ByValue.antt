-- A call of a function by value, in a walk by hand: plain values are passed, nothing is asked of the caller, and what the clause says of the result is
-- learned. It says nothing of the crate, and holds in every model of the machine (`Logic`).
use Rattle.std.specs.Prelude.{refl, List, [], ◌∷◌}
use Rattle.std.proofs.Common.{ap, subst}
use seplogic.Ra.Ura.{Ura}
use mir.Syntax.{Callee as Key, Place, Opd as Operand, Body, w64, seq, call}
use mir.Val.{Val, vbool, vint}
use base.Logic.{emp, id⊢}
use prog.Wp.{Env, Calls, Loops}
use types.Logic.{Logic}
use contract.Monad.{fact}
use sound.WpLaws.{FmC}
use types.Kit.{Item, Post, Seq, runs, lands, raw, ◌$◌}
use types.Kit.{drop, regoal}
use types.Run.{Opds}
use denote.RattleType.{RattleType, Denots, Valss, flat}
use denote.Laws.{Is, Ises, Are, Typed, Tells, Makes, Makess, Lawful, owns_make}
use denote.Plain.{uint_Tells, uint_Makes, uint_Lawful, bool_Tells, bool_Makes, bool_Lawful}
use Rattle.std.specs.Borrow.{usize, bool}
use denote.Struct.Declared.{Declared, fields, row as row_of}
use denote.Struct.Struct.{Plains}
use denote.Struct.Laws as laws
use denote.Signature.{Slot, plain, types_at}
use denote.Steps.{only, heard}
use denote.Exit.{yes}
use denote.Triple.End.{Kepts}
use denote.Triple.Statement.{Contract, Triple}
use denote.Triple.Clauses.{Ended, Clauses}
use Rattle.moves.specs.walks.Walking.{Met, calls_told}

-- a type that owns only facts, each value of which has one machine value
pub record PlainType : Type 2 where
  pub row : RattleType
  pub val : row.Denot → Val
  pub tells : Tells row (Is row) (λ x. val x ∷ [])
  pub makes : {M : Type 1} {𝓤 : Ura M} (𝓛 : Logic 𝓤) → Makes 𝓛 row (Is row)
  pub lawful : {M : Type 1} {𝓤 : Ura M} (𝓛 : Logic 𝓤) → Lawful 𝓛 row

abbrev pub word : PlainType
word = record {
  row = usize;
  val = vint w64;
  tells = uint_Tells w64;
  makes = λ 𝓛. uint_Makes 𝓛 w64;
  lawful = λ 𝓛. uint_Lawful 𝓛 w64;
}

abbrev pub boolean : PlainType
boolean = record { row = bool; val = vbool; tells = bool_Tells; makes = bool_Makes; lawful = bool_Lawful }

abbrev pub struct : (T : Declared) → laws.Laws T → Plains (fields T) → PlainType
struct T L pl = record {
  row = row_of T;
  val = laws.val T L;
  tells = laws.tells T L;
  makes = λ 𝓛. laws.makes T pl 𝓛;
  lawful = laws.lawful T L;
}

-- ---- parameters of such types
abbrev slots : List PlainType → List (Slot 0)
slots [] = []
slots (t ∷ ts) = plain (λ _. t.row) ∷ slots ts

abbrev rows : List PlainType → List RattleType
rows ts = types_at (slots ts) tt

abbrev kept : (ts : List PlainType) → Kepts (slots ts)
kept [] = tt
kept (t ∷ ts) = (yes, kept ts)

abbrev vals : (ts : List PlainType) → Denots (rows ts) → Valss (rows ts)
vals [] a = tt
vals (t ∷ ts) a = (t.val a.0 ∷ [], vals ts a.1)

-- each argument stands in its type's relation to its machine value
abbrev Passed : (ts : List PlainType) → Denots (rows ts) → Type 0
Passed ts a = Are (rows ts) (Ises (rows ts)) a (vals ts a)

-- ---- the function
pub record Callee : Type 2 where
  pub params : List PlainType
  pub result : PlainType
  pub says : Denots (rows params) → result.row.Denot → Type 0

abbrev ended : Callee → Ended
ended f = record {
  signature = record { lifetimes = 0; outlives = []; params = slots f.params; result = plain (λ _. f.result.row) };
  kept = kept f.params;
}

module _ {M : Type 1} {𝓤 : Ura M} (𝓛 : Logic 𝓤) where
  -- its contract
  abbrev clauses : (f : Callee) → Clauses 𝓤 (ended f)
  clauses f κs a = record { ghost = Unit {0}; requires = λ _. emp 𝓤; ensures = λ _ r _. fact 𝓤 (f.says a r) }

  abbrev pub ByValue : Callee → Contract 𝓤
  ByValue f = Met 𝓤 𝓛 (ended f) (clauses f)

  all_make : (ts : List PlainType) → Makess 𝓛 (rows ts) (Ises (rows ts))
  all_make [] = tt
  all_make (t ∷ ts) = (t.makes 𝓛, all_make ts)

-- the call. The operands are read behind one entry more, and the result is r, at its machine value, of which the clause holds
module _ {M : Type 1} {𝓤 : Ura M} {𝓛 : Logic 𝓤} {K : Type 0} {Γ : List (Item 𝓤)} {E : Env 𝓤 𝓛.H} {C : Calls 𝓤 𝓛.H} {Λ : Loops 𝓤 𝓛.H}
    {q : Post 𝓤 𝓛.H} {name : Key} {xs : List Operand} {d : Place} {rest : Body} where
  open 𝓛 use {H}

  pub calls_by_value : K → FmC 𝓤 H 𝓛.laws C → (f : Callee) → Triple 𝓤 (C name) (ByValue 𝓛 f) → (a : Denots (rows f.params))
      → Passed f.params a
      → Opds K 𝓛 (raw ((ByValue 𝓛 f).pre ((tt, tt, tt, a, vals f.params a), tt)) ∷ Γ) E xs (flat (rows f.params) (vals f.params a))
      → ((r : f.result.row.Denot) → Is f.result.row r (f.result.val r ∷ []) → Typed f.result.row.mir (f.result.val r ∷ []) → f.says a r
      → Seq K 𝓛 Γ (lands C Λ E d (f.result.val r) rest q))
      → Seq K 𝓛 Γ (runs C Λ E (seq (call name xs d) rest) q)
  calls_by_value t fm f met a g os k =
      let Rs : List RattleType = rows f.params in
      let vs : Valss Rs = vals f.params a in
      calls_told t fm (ended f) (clauses 𝓛 f) met ((tt, tt, tt, a, vs), tt) {Δ = []}
      (record { all = owns_make 𝓛 Rs (Ises Rs) (all_make 𝓛 f.params) a vs g }) (id⊢ 𝓤 (emp 𝓤)) os (λ v r _ is.
      heard t (f.says a r) (λ h. drop t $ drop t $
      let same = f.result.tells r (v ∷ []) is in
      let is-val = subst (Is f.result.row r) same is in
      regoal t (λ u. lands C Λ E d u rest q) (ap only same) refl $ k r is-val ((f.result.lawful 𝓛).typed r _ is-val) h))
