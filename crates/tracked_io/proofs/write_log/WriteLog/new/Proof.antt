-- `new` makes the empty struct, of which nothing was taken. Assumes `Logic`.
use Rattle.std.proofs.Common.{[], ◌∷◌, refl}
use Rattle.std.specs.declared.io.traits.Write as Write
use seplogic.Ra.Ura.{Ura}
use mir.Syntax.{Fn, Args as FnArgs, Dict, a_type, dcons, dnil, named}
use mir.Val.{Val, vptr, vstruct, vnil}
use mir.MapTy.{inst_fn}
use base.Logic.{SProp, ent, via, fst∗}
use base.Fml.{Fml}
use prog.Memory.{Memory}
use prog.Routine.{Routine}
use prog.Wp.{Calls, Loops, WpFn, Tables}
use types.Logic.{Logic}
use contract.Lifetimes.{Lfts, Shares, AllOutlive}
use contract.Monad.{Fun}
use contract.Running.{tables, tables_of}
use sound.WpLaws.{WpFn-mono}
use types.Kit.{‵, raw, ◌$◌, ◌∵◌, !, qed, move, suffices, done}
use types.Run.{no_more, returns, enter}
use types.Part.{agg}
use types.ByLocal.{alloc_all, pass_all, free_all, look_at, sets}
use denote.Exit.{yes}
use denote.Param.{param, bounded}
use denote.RattleType.{RattleType, owns}
use denote.Ref.{shr_vals, shr_Tells}
use denote.Shadow.{pure_i}
use denote.Signature.{plain, types_at}
use denote.Triple.Clauses.{Ended}
use denote.Triple.Entry.{on_entry, alive, Args}
use denote.Triple.Spec.{Meets, triple_of}
use denote.Triple.Table.{entered}
use denote.Triple.Walked.{says, stay_none_ref, Stays, walk_of, Walks, ends_at, walked, Goes-none_ref, walk_Meets}
use Rattle.tracked_io.specs.Wrote.{nothing_taken}
use Rattle.tracked_io.specs.contracts.write_log.WriteLog as log
use Rattle.tracked_io.specs.contracts.write_log.WriteLog.new.Key.{name as key}
use Rattle.tracked_io.specs.contracts.write_log.WriteLog.new as f
use Rattle.tracked_io.proofs.write_log.WriteLog.new.Statement as stated
use Rattle.tracked_io.proofs.write_log.WriteLog.new.Code as code

module _ (W : RattleType) (g : Write.Ghosts W.Denot) (d : Dict) where
  abbrev args : FnArgs
  args = bounded (a_type ∷ []) (W, tt) (dcons d dnil)

  abbrev function : Fn
  function = inst_fn args code.function

  abbrev ended : Ended
  ended = f.ended W g d

  abbrev stayed : Stays ended.signature.params ended.kept
  stayed = (stay_none_ref (0 ∷ []) tt (plain (λ _. param 0 W)) yes, tt)

  module _ {M : Type 1} {𝓤 : Ura M} (𝓛 : Logic 𝓤) (mem : Memory → SProp 𝓤) (run : Routine → Fun 𝓤) (C : Calls 𝓤 𝓛.H) (Λ : Loops 𝓤 𝓛.H) where
    open 𝓛 use {H}

    module _ (κs : Lfts 2) (qs : Shares 2) (bounds : AllOutlive 2 ended.signature.outlives κs) (a : Args ended.signature κs) where
      abbrev inner : Val
      inner = vptr a.0.ref_ptr.0 a.0.ref_ptr.1

      abbrev bound : (walk_of 𝓛 ended stayed (f.clauses W g d 𝓛 mem run)).Ghost
      bound = ((κs, qs, bounds, a, (inner ∷ [], tt)), tt)

      abbrev passed : Fml
      passed = owns (types_at ended.signature.params κs) a (inner ∷ [], tt)

      abbrev made : (log.the_row).Denot
      made = record { taken = nothing_taken (g.contents a.0.now) }

      walk : ent 𝓤 (on_entry 𝓛 ended.signature κs qs a (inner ∷ [], tt))
          (WpFn 𝓤 H C Λ function (inner ∷ []) ((walk_of 𝓛 ended stayed (f.clauses W g d 𝓛 mem run)).post bound))
      walk =
          qed 𝓛 (raw (alive 𝓛 ended.signature κs qs) ∷ ‵ passed ∷ []) ∵ enter ! C Λ function (inner ∷ []) _ $
          alloc_all ! (λ l. pass_all ! refl ((tt, tt), tt) $ sets ! (agg ! (no_more !)) refl (tt, tt) $
          returns ! (look_at ! 0 refl) $ free_all ! refl $
          suffices ! _ (ends_at 𝓛 ended stayed (f.clauses W g d 𝓛 mem run) bound (vstruct vnil) made (tt, tt) (tt, tt)) $
          says ! refl $ pure_i ! (log.the_row.own_val made (vstruct vnil ∷ [])) ((λ vss. (tt, tt)), tt) ((tt, (refl, tt)), tt) $
          move ! (1 ∷ 2 ∷ 0 ∷ []) $ done !)

    walks : Walks 𝓛 ended stayed (WpFn 𝓤 H C Λ function) (f.clauses W g d 𝓛 mem run)
    walks =
        walked 𝓛 ended stayed (f.clauses W g d 𝓛 mem run) (WpFn 𝓤 H C Λ function) (λ κs. (shr_vals, tt))
        (λ κs. (shr_Tells (named 0) κs.0 (param 0 W), tt))
        (λ κs qs bounds a ghost are. via 𝓤 _ (fst∗ 𝓤 _ ((f.clauses W g d 𝓛 mem run κs a).requires ghost)) (walk κs qs bounds a))

  meets : {M : Type 1} {𝓤 : Ura M} (𝓛 : Logic 𝓤) (mem : Memory → SProp 𝓤) (run : Routine → Fun 𝓤) (𝓣 : Tables 𝓤 𝓛.H)
      → Meets 𝓛 ended.signature (WpFn 𝓤 𝓛.H 𝓣.C 𝓣.Λ function) (f.spec W g d 𝓛 mem run)
  meets {𝓤 = 𝓤} 𝓛 mem run 𝓣 =
      walk_Meets 𝓛 ended stayed (Goes-none_ref 𝓛 2 (0 ∷ []) tt (plain (λ _. param 0 W)) yes, tt)
      (f.clauses W g d 𝓛 mem run) (WpFn 𝓤 𝓛.H 𝓣.C 𝓣.Λ function)
      (WpFn-mono 𝓤 𝓛.H 𝓛.laws 𝓣 function) (walks 𝓛 mem run 𝓣.C 𝓣.Λ)

pub new_spec : {M : Type 1} → stated.statement M
unfolding tables_of
new_spec 𝓤 𝓛 𝓜 𝓡 wired W laws g d met =
    entered 𝓤 𝓛.H (triple_of 𝓛 (f.signature W) (f.spec W g d 𝓛 𝓜.mem 𝓡.returns))
    (tables 𝓤 𝓛.H 𝓜 𝓡 𝓡.env).C (tables 𝓤 𝓛.H 𝓜 𝓡 𝓡.env).Λ (key (args W g d)) (function W g d) (code.unfolded 𝓤 𝓛.H 𝓜 𝓡 wired (W, tt) d)
    (meets W g d 𝓛 𝓜.mem 𝓡.returns (tables_of 𝓤 𝓛.H 𝓜 (tables 𝓤 𝓛.H 𝓜 𝓡 𝓡.env)))
