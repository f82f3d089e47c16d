-- What the public function promises. What a program reads and writes is the system's, of which no contract speaks; so all that is promised is
-- that nothing of what was said is still held. The bytes themselves are held to stored runs.
use Rattle.std.specs.Prelude.{ℕ, ◌≡◌}
use Rattle.cli.specs.declared.Kind.{Kind}
use Rattle.line_reader.specs.declared.Rest.{Rest}

abbrev pub Answered : Kind × Rest → ℕ → Type 0
Answered (kind, rest) r = r ≡ 0
