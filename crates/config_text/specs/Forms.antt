-- What a rewrite and a relation of a configuration stand for.
use Rattle.std.specs.Prelude.{List, [], ◌∷◌, map}
use Rattle.config_text.specs.declared.rewrite.Rewrite.{Rewrite, fold-Rewrite}
use Rattle.config_text.specs.declared.rewrite.Rewrite.TheOpen.{Rewrite-F}
use Rattle.config_text.specs.declared.relation.Relation.{Relation}
use Rattle.meaning.specs.Form.{Form, Forms, This, Computed, TupleTo, Union, Intersection, Exclusion, none, more}
use Rattle.meaning.specs.Config.{Defined}

abbrev pub forms_of : List Form → Forms
forms_of [] = none
forms_of (f ∷ fs) = more f (forms_of fs)

abbrev pub form_step : Rewrite-F Form → Form
form_step Rewrite-F.This = This
form_step (Rewrite-F.Computed c) = Computed c
form_step (Rewrite-F.TupleTo t c) = TupleTo t c
form_step (Rewrite-F.Union v) = Union (forms_of v.items)
form_step (Rewrite-F.Intersection v) = Intersection (forms_of v.items)
form_step (Rewrite-F.Exclusion a b) = Exclusion a.value b.value

-- the form of a rewrite
abbrev pub form_of : Rewrite → Form
form_of = fold-Rewrite Form form_step

abbrev pub rewrite_forms : List Rewrite → Forms
rewrite_forms rewrites = forms_of (map form_of rewrites)

abbrev pub defined_of : Relation → Defined
defined_of r = record { rel = r.name; types = r.types.items; form = form_of r.rewrite; indexed = r.indexed }
