-- The limits and defaults of the format that a first line `fdpic-job 1` names. They are this project's own.
use Rattle.std.specs.Prelude.{true}
use Rattle.job_text.specs.declared.limits.Limits.{Limits}

abbrev pub first_format : Limits
first_format = record {
  memory = record { bounds = record { least = 65536; most = 8388608; multiple = 4096 }; default = 1048576 };
  descriptors = record { bounds = record { least = 1; most = 4096; multiple = 1 }; default = 64 };
  stack = record { bounds = record { least = 256; most = 65536; multiple = 16 }; default = 1024 };
  steps = record { bounds = record { least = 1; most = 1000000; multiple = 1 }; default = 1000000 };
  lazy = true;
  addresses = 8;
  places = 1024;
  threads = 8;
  thread = record { least = 0; most = 7; multiple = 1 };
  count = record { least = 1; most = 1000000; multiple = 1 };
  turns = 65536;
}
