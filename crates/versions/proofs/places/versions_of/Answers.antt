use Rattle.std.proofs.Common.{Bor, ◌≡◌, List, ap, ◌∙◌, refl}
use Rattle.std.specs.Prelude.{Option, Some, None}
use Rattle.std.specs.Option.{option_map, option_copied}
use Rattle.versions.specs.declared.version.Version.{Version}
use Rattle.versions.specs.Versions.{items_or}
use Rattle.versions.proofs.Decoding.{versions_found}
use Rattle.versions.proofs.places.versions_of.Goals as goal

copied : (o : Option (Bor (List Version))) → items_or (option_map (λ versions. versions.now) o) ≡ items_or (option_copied o)
copied None = refl
copied (Some versions) = refl

pub returns : goal.returns
returns c =
    copied c.get.result ∙ ap items_or c.get.ensures
    ∙ versions_found c.as_str.result.now c.as_str.ensures.spelling c.args.key.now c.as_str.ensures.read c.args.map.now c.requires
