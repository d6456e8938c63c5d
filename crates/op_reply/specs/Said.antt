-- What the parts of the printer answer.
use Rattle.std.specs.Prelude.{ℕ, List, [], ◌++◌, codes, option_map, unwrap_or}
use Rattle.http.specs.StatusCode.{code_digits, reason_phrase}
use Rattle.op_model.specs.Printed as model
use Rattle.op_model.specs.Bodies.{grant_url}
use Rattle.op_reply.specs.Values.{data_of}
use Rattle.op_reply.specs.declared.said.Said.{Said}

-- the three digits of a status, and its phrase, as `http` has them
unfoldable pub status_line : ℕ → List ℕ
status_line status = code_digits status ++ codes " " ++ unwrap_or (reason_phrase status) []

-- what a reply says, as the model has it
abbrev pub said_of : Said → model.Said
said_of said = record {
  status = status_line said.status;
  allow = option_map (λ allow. allow.now) said.allow;
  challenge = option_map (λ origin. codes "GNAP as_uri=" ++ grant_url origin.now) said.challenge;
  body = option_map data_of said.body;
}
