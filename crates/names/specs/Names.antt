-- Which texts are names and which are object ids. The alphabets and the lengths are this project's.
use Rattle.std.specs.Prelude.{ℕ, ◌==◌, ◌&&◌, ◌||◌, Bool, List, length, nat_lt, nat_le, slice_index}
use Rattle.std.specs.List.{list_all}
use Rattle.names.specs.declared.limits.TheConstants.{MAX_NAME_LEN, MAX_ID_LEN}

abbrev pub is_lower : ℕ → Bool
is_lower b = nat_le 97 b && nat_le b 122

abbrev pub is_upper : ℕ → Bool
is_upper b = nat_le 65 b && nat_le b 90

abbrev pub is_digit : ℕ → Bool
is_digit b = nat_le 48 b && nat_le b 57

-- a small letter, a digit or an underscore
abbrev pub is_name_byte : ℕ → Bool
is_name_byte b = is_lower b || is_digit b || b == 95

-- the same, or a capital letter, a dot or a dash
abbrev pub is_id_byte : ℕ → Bool
is_id_byte b = is_name_byte b || is_upper b || b == 46 || b == 45

-- a small letter, and then up to 31 small letters, digits and underscores
abbrev pub is_name : List ℕ → Bool
is_name bs = nat_lt 0 (length bs) && nat_le (length bs) MAX_NAME_LEN && is_lower (slice_index bs 0) && list_all is_name_byte bs

-- 1 to 64 letters, digits, underscores, dots and dashes
abbrev pub is_id : List ℕ → Bool
is_id bs = nat_lt 0 (length bs) && nat_le (length bs) MAX_ID_LEN && list_all is_id_byte bs
