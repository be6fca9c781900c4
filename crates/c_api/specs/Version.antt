-- The library's version, as one number: a byte each for minor and patch.
use Rattle.std.specs.Prelude.{ℕ, ◌+◌, ◌*◌}

abbrev pub major : ℕ
major = 0

abbrev pub minor : ℕ
minor = 2

abbrev pub patch : ℕ
patch = 0

abbrev pub version : ℕ
version = major * 65536 + minor * 256 + patch
