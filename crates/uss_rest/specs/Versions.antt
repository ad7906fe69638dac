-- The version in a path of a subscription. This profile's subscriptions have one version. This project's own.
use Rattle.std.specs.Prelude.{ℕ, List, bytes_eq, codes, if◌then◌else◌}

-- 1 where the text is `1`; any other text is no version that there is, and stands as 0
abbrev pub version_in : List ℕ → ℕ
version_in text = if bytes_eq text (codes "1") then 1 else 0
