mod CallLines
mod ReportLines
