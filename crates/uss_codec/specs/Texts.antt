-- How names, OVNs and base URLs are read: as texts that pass the test of their type. This project's own.
use Rattle.std.specs.Prelude.{ℕ, List}
use Rattle.uss_intent.specs.Texts.{is_name, is_ovn, is_base}
use Rattle.uss_codec.specs.Reading.{Reading, only_at, text_at}

unfoldable pub name_at : Reading (List ℕ)
name_at bytes = only_at is_name text_at bytes

unfoldable pub ovn_at : Reading (List ℕ)
ovn_at bytes = only_at is_ovn text_at bytes

unfoldable pub base_at : Reading (List ℕ)
base_at bytes = only_at is_base text_at bytes
