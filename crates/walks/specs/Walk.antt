-- From a walk to the statement: where the walk of a function's code, over its own tables of calls and loops, ends as
-- the contract says, the function meets its contract. No `requires` is read: a walk starts from what is had at entry.
use Rattle.std.specs.Prelude.{List}
use seplogic.Ra.Ura.{Ura}
use mir.Syntax.{Fn}
use base.Logic.{ent, via, fst∗}
use prog.Model.{Model}
use prog.Routine.{Callee, Env}
use prog.Wp.{WpFn, Closed, Tables}
use types.Logic.{Logic}
use contract.Monad.{Fun}
use contract.Lifetimes.{Lfts, Shares, AllOutlive}
use contract.Running.{Running, tables, tables_of}
use sound.WpLaws.{FmC, fm_of, WpFn-mono}
use denote.RattleType.{RattleType, flat}
use denote.Laws.{Are, Ises, Spells, valss, Tellss}
use denote.Signature.{Signature, types_at}
use denote.Triple.Entry.{Args, Vals, on_entry}
use denote.Triple.Spec.{Meets, triple_of}
use denote.Triple.Table.{entered}
use denote.Triple.Walked.{Stays, AllGo, walk_of, walked, walk_Meets}
use denote.Triple.Clauses.{Ended, Clauses, closing}

module _ {M : Type 1} {𝓤 : Ura M} (𝓛 : Logic 𝓤) (𝓜 : Model 𝓤 𝓛.H) (𝓡 : Running 𝓤 𝓛.H 𝓜)
    (env : Env) (name : Callee) (f : Fn)
    (T : Ended) (hs : Stays T.signature.params T.kept) (c : Clauses 𝓤 T) where
  open 𝓛 use {H}

  abbrev S : Signature
  S = T.signature

  -- the function's tables, and its run over them
  abbrev 𝓣 : Tables 𝓤 H
  𝓣 = tables_of 𝓤 H 𝓜 (tables 𝓤 H 𝓜 𝓡 env)

  abbrev run : Fun 𝓤
  run = WpFn 𝓤 H 𝓣.C 𝓣.Λ f

  abbrev params : Lfts S.lifetimes → List RattleType
  params κs = types_at S.params κs

  -- how the parameters are spelled in machine values, and those values
  abbrev Spelled : Type 0
  Spelled = (κs : Lfts S.lifetimes) → Spells (params κs)

  abbrev vals : Spelled → (κs : Lfts S.lifetimes) → Args S κs → Vals S κs
  vals sp κs a = valss (params κs) (sp κs) a

  -- the walk at any lifetimes and parameters
  abbrev Walk : Spelled → Type 1
  Walk sp =
      (κs : Lfts S.lifetimes) (qs : Shares S.lifetimes) (bounds : AllOutlive S.lifetimes S.outlives κs)
      (a : Args S κs) (g : (c κs a).ghost) → Are (params κs) (Ises (params κs)) a (vals sp κs a)
      → ent 𝓤 (on_entry 𝓛 S κs qs a (vals sp κs a))
      (run (flat (params κs) (vals sp κs a)) ((walk_of 𝓛 T hs c).post ((κs, qs, bounds, a, vals sp κs a), g)))

  pub by_walk : Closed 𝓤 H (tables 𝓤 H 𝓜 𝓡 env).C (tables 𝓤 H 𝓜 𝓡 env).Λ name f
      → AllGo 𝓛 S.lifetimes S.params T.kept hs
      → (sp : Spelled) → ((κs : Lfts S.lifetimes) → Tellss (params κs) (Ises (params κs)) (sp κs))
      → (FmC 𝓤 H 𝓛.laws 𝓣.C → Walk sp)
      → Meets 𝓛 S ((tables 𝓤 H 𝓜 𝓡 env).C name) (closing 𝓛 T c)
  unfolding tables_of
  by_walk closed gs sp tells walk =
      entered 𝓤 H (triple_of 𝓛 S (closing 𝓛 T c)) 𝓣.C 𝓣.Λ name f closed
      (walk_Meets 𝓛 T hs gs c run (WpFn-mono 𝓤 H 𝓛.laws 𝓣 f)
      (walked 𝓛 T hs c run sp tells (λ κs qs bounds a g are.
      via 𝓤 _ (fst∗ 𝓤 _ ((c κs a).requires g)) (walk (fm_of 𝓤 H 𝓛.laws 𝓣) κs qs bounds a g are))))
