-- Which cause a configuration gives for a tuple, and what a refusal of a write says.
use Rattle.std.proofs.Common.{◌≡◌, sym, ap}
use Rattle.std.specs.Prelude.{not}
use Rattle.names.specs.declared.tuple.Tuple.{Tuple}
use Rattle.names.specs.declared.refusal.Refusal.{Refusal}
use Rattle.names.specs.declared.refusal.Refusal.TheVariants.{UnknownRelation, TypeRefused}
use Rattle.config.specs.Refused.{AdmitCause}
use Rattle.rows.specs.Judging.{says_unknown}
use Rattle.meaning.specs.Config.{Configured, rel_of}
use Rattle.meaning.specs.Admits.{has_relation}

-- what a refusal of a tuple says
pub unknown_by : (config : Configured) (t : Tuple) (why : Refusal) → AdmitCause config t why → says_unknown why ≡ not (has_relation config (rel_of t.node))
unknown_by config t UnknownRelation h = ap not (sym h)
unknown_by config t TypeRefused h = ap not (sym h.0)
unknown_by config t _ h = absurd h
