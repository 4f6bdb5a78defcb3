-- What holds of a cache's parts.
use Rattle.std.specs.Prelude.{◌≡◌, ◌≤◌, Bool, length}
use Rattle.std.specs.List.{IsDistinct}
use Rattle.std.specs.Map.{keys_of}
use Rattle.lru.specs.LruCache.{LruCache}
use Rattle.answer_cache.specs.declared.question.Question.{Question}
use Rattle.answer_cache.specs.declared.cached.TheConstants.{CAPACITY}
use Rattle.answer_cache.specs.Questions.{is_same}

pub record Fits (c : LruCache Question Bool) : Type 0 where
  pub capacity : c.cap ≡ CAPACITY
  pub few : length c.entries ≤ CAPACITY
  pub distinct : IsDistinct is_same (keys_of c.entries)
