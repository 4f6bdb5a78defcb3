-- How large a rewrite is, and that it has parts where it must.
use Rattle.std.specs.Prelude.{ℕ, ◌+◌, ◌&&◌, Bool, true, false, max}
use Rattle.meaning.specs.Form.{Form, Forms, This, Computed, TupleTo, Union, Intersection, Exclusion, none, more}

-- each rewrite in it, itself included
abbrev mutual
  pub form_nodes : Form → ℕ
  form_nodes This = 1
  form_nodes (Computed r) = 1
  form_nodes (TupleTo t r) = 1
  form_nodes (Union ws) = 1 + forms_nodes ws
  form_nodes (Intersection ws) = 1 + forms_nodes ws
  form_nodes (Exclusion a b) = 1 + (form_nodes a + form_nodes b)

  pub forms_nodes : Forms → ℕ
  forms_nodes none = 0
  forms_nodes (more w ws) = form_nodes w + forms_nodes ws

-- how many rewrites stand in each other; a leaf has depth 1
abbrev mutual
  pub form_depth : Form → ℕ
  form_depth This = 1
  form_depth (Computed r) = 1
  form_depth (TupleTo t r) = 1
  form_depth (Union ws) = 1 + forms_depth ws
  form_depth (Intersection ws) = 1 + forms_depth ws
  form_depth (Exclusion a b) = 1 + max (form_depth a) (form_depth b)

  pub forms_depth : Forms → ℕ
  forms_depth none = 0
  forms_depth (more w ws) = max (form_depth w) (forms_depth ws)

abbrev pub is_some : Forms → Bool
is_some none = false
is_some (more w ws) = true

-- each union and intersection in it has a part
abbrev mutual
  pub has_parts : Form → Bool
  has_parts This = true
  has_parts (Computed r) = true
  has_parts (TupleTo t r) = true
  has_parts (Union ws) = is_some ws && all_have_parts ws
  has_parts (Intersection ws) = is_some ws && all_have_parts ws
  has_parts (Exclusion a b) = has_parts a && has_parts b

  pub all_have_parts : Forms → Bool
  all_have_parts none = true
  all_have_parts (more w ws) = has_parts w && all_have_parts ws
