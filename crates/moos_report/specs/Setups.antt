-- What is told of a community without a helm.
use Rattle.std.specs.Prelude.{[], false}
use Rattle.moos_report.specs.declared.setup.Setup.{Setup}

-- the setup of a community without a helm: no unused parameters, and no modes
abbrev pub setup_without_helm : Setup
setup_without_helm = record { unused = []; modes = false }
